-- The facts that a probing source means: a plant, which no call of a source changes, and a state, which commands and withdrawals change.
-- Responses are whole millionths of per unit, settings and steps whole thousandths, voltages whole billionths.
use Rattle.std.specs.Prelude.{◌≡◌, ℕ, zero, suc, ◌≤◌, Bool, true, false, cond, ◌&&◌, ℤ, pos, ◌+ℤ◌, ◌*ℤ◌, ◌==◌, nat_le, unsigned_abs}

-- Buses are numbered from 1; an inverter goes by its bus.
pub record Plant : Type 0 where
  -- how many metered buses there are
  pub buses : ℕ
  -- which of them have inverters
  pub inverter : ℕ → Bool
  -- of a bus to an inverter: response n m is that of bus n to inverter m
  pub response : ℕ → ℕ → ℤ
  -- the voltage of a bus with every inverter on its schedule
  pub standing : ℕ → ℤ
  -- whose meters are mute
  pub mute : ℕ → Bool

pub record State : Type 0 where
  -- how far each inverter is off its schedule; 0 is its schedule
  pub setting : ℕ → ℤ

pub record Facts : Type 0 where
  pub plant : Plant
  pub state : State

-- is there such a metered bus?
abbrev pub metered : Plant → ℕ → Bool
metered p n = nat_le 1 n && nat_le n p.buses

-- the bounds of a plant
pub record PlantIsBounded (p : Plant) : Type 0 where
  pub some : 1 ≤ p.buses
  pub few : p.buses ≤ 64
  -- only metered buses have inverters
  pub placed : (m : ℕ) → p.inverter m ≡ true → metered p m ≡ true
  pub responses : (n m : ℕ) → unsigned_abs (p.response n m) ≤ 1000000
  pub standings : (n : ℕ) → unsigned_abs (p.standing n) ≤ 1000000000

-- the bounds of a plant's settings
pub record StateIsBounded (p : Plant) (s : State) : Type 0 where
  pub settings : (m : ℕ) → unsigned_abs (s.setting m) ≤ 1000
  -- 0 where no inverter is
  pub unset : (m : ℕ) → p.inverter m ≡ false → s.setting m ≡ pos 0

-- the law of bounds
pub record IsBounded (f : Facts) : Type 0 where
  pub plant : PlantIsBounded f.plant
  pub state : StateIsBounded f.plant f.state

-- g 1 + .. + g k
unfoldable pub sum_to : ℕ → (ℕ → ℤ) → ℤ
sum_to zero g = pos 0
sum_to (suc k) g = sum_to k g +ℤ g (suc k)

-- what inverter m adds to the voltage of bus n
abbrev pub share : Facts → ℕ → ℕ → ℤ
share f n m = cond (f.plant.inverter m) (f.plant.response n m *ℤ f.state.setting m) (pos 0)

-- the voltage of bus n: its standing voltage, and over all inverters response times setting
unfoldable pub voltage : Facts → ℕ → ℤ
voltage f n = f.plant.standing n +ℤ sum_to f.plant.buses (share f n)

-- one setting replaced
abbrev pub replaced : (ℕ → ℤ) → ℕ → ℤ → ℕ → ℤ
replaced settings m to k = cond (k == m) to (settings k)

-- the same plant with these settings
abbrev pub with_settings : Facts → (ℕ → ℤ) → Facts
with_settings f settings = record { plant = f.plant; state = record { setting = settings } }

-- the same plant with the setting of inverter m replaced
abbrev pub with_setting : Facts → ℕ → ℤ → Facts
with_setting f m to = with_settings f (replaced f.state.setting m to)
