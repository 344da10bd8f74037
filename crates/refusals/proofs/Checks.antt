-- What follows from how checks in order were answered.
use Rattle.std.proofs.Common.{◌≡◌, ℕ, Bool, true, false, ◌⊎◌, Some, None, Ok, Err, Option, Result, refl, inl, inr, arith}
use Rattle.refusals.specs.Checks.{need, having, lacking, after}

-- two values made by different constructors are not equal, and what says they are proves anything: `cc` finds the clash
pub clash : {A : Type 0} → ◌≡◌ {A = ℕ} 0 1 → A
clash e = absurd (omega (arith, e))

module _ {T E : Type 0} where
  pub need_ok : (b : Bool) (fault : E) (rest : Result T E) (y : T) → need b fault rest ≡ Ok y → (b ≡ true) × (rest ≡ Ok y)
  need_ok true fault rest y e = (refl, e)
  need_ok false fault rest y e = clash cc

  pub need_err : (b : Bool) (fault : E) (rest : Result T E) (y : E) → need b fault rest ≡ Err y → ((b ≡ false) × (fault ≡ y)) ⊎ ((b ≡ true) × (rest ≡ Err y))
  need_err true fault rest y e = inr (refl, e)
  need_err false fault rest y e = inl (refl, cc)

module _ {T U E : Type 0} where
  pub having_ok : (o : Option T) (fault : E) (rest : T → Result U E) (y : U) → having o fault rest ≡ Ok y → (x : T) × (o ≡ Some x) × (rest x ≡ Ok y)
  having_ok None fault rest y e = clash cc
  having_ok (Some x) fault rest y e = (x, refl, e)

  pub having_err : (o : Option T) (fault : E) (rest : T → Result U E) (y : E) → having o fault rest ≡ Err y → ((o ≡ None) × (fault ≡ y)) ⊎ ((x : T) × (o ≡ Some x) × (rest x ≡ Err y))
  having_err None fault rest y e = inl (refl, cc)
  having_err (Some x) fault rest y e = inr (x, refl, e)

  pub after_ok : (o : Result T E) (rest : T → Result U E) (y : U) → after o rest ≡ Ok y → (x : T) × (o ≡ Ok x) × (rest x ≡ Ok y)
  after_ok (Ok x) rest y e = (x, refl, e)
  after_ok (Err fault) rest y e = clash cc

  pub after_err : (o : Result T E) (rest : T → Result U E) (y : E) → after o rest ≡ Err y → (o ≡ Err y) ⊎ ((x : T) × (o ≡ Ok x) × (rest x ≡ Err y))
  after_err (Ok x) rest y e = inr (x, refl, e)
  after_err (Err fault) rest y e = inl (let same : fault ≡ y = cc in cc)

  pub lacking_ok : (o : Option T) (fault : T → E) (rest : Result U E) (y : U) → lacking o fault rest ≡ Ok y → (o ≡ None) × (rest ≡ Ok y)
  lacking_ok None fault rest y e = (refl, e)
  lacking_ok (Some x) fault rest y e = clash cc

  pub lacking_err : (o : Option T) (fault : T → E) (rest : Result U E) (y : E) → lacking o fault rest ≡ Err y → ((x : T) × (o ≡ Some x) × (fault x ≡ y)) ⊎ ((o ≡ None) × (rest ≡ Err y))
  lacking_err None fault rest y e = inr (refl, e)
  lacking_err (Some x) fault rest y e = inl (x, refl, cc)
