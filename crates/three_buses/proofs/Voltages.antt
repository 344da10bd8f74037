-- The standing voltage and the shares that are added up are small.
use Rattle.std.proofs.Common.{◌≡◌, ℕ, ◌-◌, ◌≤◌, Bool, true, List, ℤ, pos, negsuc, ◌+ℤ◌, nat_abs, sym, subst, get_or, arith, w64, SFits}
use Rattle.std.proofs.lemmas.Int.{ints}
use Rattle.std.proofs.lemmas.Bool.{cond-true}
use Rattle.probing.specs.Facts.{PlantIsBounded, voltage, share}
use Rattle.probing.specs.Settings.{with_kept, AreSettings}
use Rattle.probing.proofs.Settings.{kept_is_bounded}
use Rattle.probing.proofs.Voltages.{sum_suc, sum_none, share_bounded}
use Rattle.three_buses.specs.Buses.{is_bus, plant_of}

fitting : (z : ℤ) → nat_abs z ≤ 4000000000 → SFits w64 z
fitting (pos n) h = record { sfits = omega arith }
fitting (negsuc n) h = record { sfits = omega arith }

-- a voltage, told by what is added up
pub record Added (stands one two three : ℤ) : Type 0 where
  pub first : SFits w64 stands
  pub share_one : SFits w64 one
  pub share_two : SFits w64 two
  pub share_three : SFits w64 three
  pub second : SFits w64 (stands +ℤ one)
  pub third : SFits w64 (stands +ℤ one +ℤ two)
  pub all : SFits w64 (stands +ℤ one +ℤ two +ℤ three)

pub added : (s a b d : ℤ) → nat_abs s ≤ 1000000000 → nat_abs a ≤ 1000000000 → nat_abs b ≤ 1000000000 → nat_abs d ≤ 1000000000 → Added s a b d
added s a b d hs ha hb hd =
    record {
      first = fitting s (omega arith);
      share_one = fitting a (omega arith);
      share_two = fitting b (omega arith);
      share_three = fitting d (omega arith);
      second = fitting (s +ℤ a) (omega (arith, ints));
      third = fitting (s +ℤ a +ℤ b) (omega (arith, ints));
      all = fitting (s +ℤ a +ℤ b +ℤ d) (omega (arith, ints));
    }

module _ (responses : List (List ℤ)) (standing : List ℤ) (mute : List Bool) (settings : List ℤ) (bounds : PlantIsBounded (plant_of responses standing mute)) (settled : AreSettings settings) (n : ℕ) (there : is_bus n ≡ true) where
  stands : (plant_of responses standing mute).standing n ≡ get_or standing (n - 1) (pos 0)
  stands = cond-true _ _ _ there

  pub shares_added : (a b d : ℤ) →
      a ≡ share (with_kept (plant_of responses standing mute) settings) n 1 →
      b ≡ share (with_kept (plant_of responses standing mute) settings) n 2 →
      d ≡ share (with_kept (plant_of responses standing mute) settings) n 3 →
      Added (get_or standing (n - 1) (pos 0)) a b d
  shares_added a b d ea eb ed =
      let f = with_kept (plant_of responses standing mute) settings in
      let law = kept_is_bounded (plant_of responses standing mute) bounds settings settled in
      added _ a b d
      (subst (λ z. nat_abs z ≤ 1000000000) stands (bounds.standings n))
      (subst (λ z. nat_abs z ≤ 1000000000) (sym ea) (share_bounded f law n 1))
      (subst (λ z. nat_abs z ≤ 1000000000) (sym eb) (share_bounded f law n 2))
      (subst (λ z. nat_abs z ≤ 1000000000) (sym ed) (share_bounded f law n 3))

  pub voltage_added : (a b d : ℤ) →
      a ≡ share (with_kept (plant_of responses standing mute) settings) n 1 →
      b ≡ share (with_kept (plant_of responses standing mute) settings) n 2 →
      d ≡ share (with_kept (plant_of responses standing mute) settings) n 3 →
      get_or standing (n - 1) (pos 0) +ℤ a +ℤ b +ℤ d ≡ voltage (with_kept (plant_of responses standing mute) settings) n
  unfolding voltage
  voltage_added a b d ea eb ed =
      let g = share (with_kept (plant_of responses standing mute) settings) n in
      omega (arith, ints, stands, sum_none g, sum_suc 0 g, sum_suc 1 g, sum_suc 2 g, ea, eb, ed)
