-- No name of a column is empty or has a quote.
use Rattle.std.proofs.Common.{◌≡◌, ℕ, zero, suc, true, false, [], refl}
use Rattle.std.specs.Str.{bytes_eq}
use Rattle.rfc4180.specs.Views.{quoteless}
use Rattle.maps.specs.Columns.{map_column}

pub name_quoteless : (k : ℕ) → quoteless (map_column k) ≡ true
name_quoteless zero = refl
name_quoteless (suc zero) = refl
name_quoteless (suc (suc n)) = refl

pub name_some : (k : ℕ) → bytes_eq [] (map_column k) ≡ false
name_some zero = refl
name_some (suc zero) = refl
name_some (suc (suc n)) = refl
