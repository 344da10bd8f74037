-- What a source of three buses means. What bus n has stands at place n - 1 of a list, and is 0 or false where no bus is.
use Rattle.std.specs.Prelude.{ℕ, ◌-◌, Bool, false, cond, ◌&&◌, List, [], replicate, ℤ, pos, ◌==◌, nat_le, slice_index_or, unsigned_abs}
use Rattle.std.specs.List.{list_all}
use Rattle.probing.specs.Facts.{Plant, Facts, metered}
use Rattle.probing.specs.Settings.{with_kept}

abbrev pub is_bus : ℕ → Bool
is_bus n = nat_le 1 n && nat_le n 3

-- the response of bus n to the inverter at bus m, with a row for each bus
abbrev pub response_in : List (List ℤ) → ℕ → ℕ → ℤ
response_in rows n m = cond (is_bus n && is_bus m) (slice_index_or (slice_index_or rows (n - 1) []) (m - 1) (pos 0)) (pos 0)

-- three buses with an inverter at each
abbrev pub plant_of : List (List ℤ) → List ℤ → List Bool → Plant
plant_of responses standing mute =
    record {
      buses = 3;
      inverter = is_bus;
      response = response_in responses;
      standing = λ n. cond (is_bus n) (slice_index_or standing (n - 1) (pos 0)) (pos 0);
      mute = λ n. is_bus n && slice_index_or mute (n - 1) false;
    }

-- no number is beyond the bound either way
abbrev pub is_within : ℕ → ℤ → Bool
is_within most number = nat_le (unsigned_abs number) most

-- no response is beyond 1,000,000 and no standing voltage beyond 1,000,000,000 either way
abbrev pub are_within : List (List ℤ) → List ℤ → Bool
are_within responses standing = list_all (list_all (is_within 1000000)) responses && list_all (is_within 1000000000) standing

-- with no meter mute and every setting 0
abbrev pub new_facts : List (List ℤ) → List ℤ → Facts
new_facts responses standing = with_kept (plant_of responses standing (replicate 3 false)) (replicate 3 (pos 0))

-- the same plant with the meter of a bus mute
abbrev pub plant_with_mute : Plant → ℕ → Plant
plant_with_mute p bus =
    record {
      buses = p.buses;
      inverter = p.inverter;
      response = p.response;
      standing = p.standing;
      mute = λ n. cond (n == bus) (metered p bus) (p.mute n);
    }

-- the same facts with the meter of a bus mute
abbrev pub with_mute : Facts → ℕ → Facts
with_mute f bus = record { plant = plant_with_mute f.plant bus; state = f.state }
