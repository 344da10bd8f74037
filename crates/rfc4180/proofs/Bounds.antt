-- What the reading finds does not depend on its bounds: each comma and each CR LF moves the place on, and there is none past the end.
use Rattle.std.proofs.Common.{◌≡◌, ℕ, zero, suc, ◌+◌, ◌<◌, ◌≤◌, Bool, true, false, cond, eqb, ltb, List, [], ◌∷◌, length, get_or, drop, sym, refl, ap, add-one, arith}
use Rattle.std.specs.List.{prefix_len}
use Rattle.std.proofs.lemmas.List.{get_or_past}
use Rattle.std.proofs.lemmas.Bool.{cond_both, cond-false, ltb-true}
use Rattle.rfc4180.specs.Grammar.{text_data}
use Rattle.rfc4180.specs.Places.{Piece}
use Rattle.rfc4180.specs.Reading.{close_at, quoted_at, field_end, Extent, extent_within, extent_at, record_at, records_within, records_at}

-- there is no comma past the end
pub no_comma_past : (file : List ℕ) (p : ℕ) → length file ≤ p → eqb (get_or file p 0) 0x2C ≡ false
no_comma_past file p l = ap (λ (x : ℕ). eqb x 0x2C) (get_or_past file p 0 l)

-- a field ends at or after its start
pub field_after : (file : List ℕ) (p : ℕ) → p ≤ field_end file p
field_after file p =
    cond_both (quoted_at file p) (close_at file p + 1) (p + prefix_len text_data (drop p file)) (λ n. p ≤ n) (λ h. omega arith) (λ h. omega arith)

-- and so does a record
pub extent_after : (n : ℕ) (file : List ℕ) (p : ℕ) → p ≤ (extent_within n file p).end
extent_after zero file p = field_after file p
extent_after (suc n) file p =
    cond_both (eqb (get_or file (field_end file p) 0) 0x2C)
    (record { fields = 1 + (extent_within n file (field_end file p + 1)).fields; end = (extent_within n file (field_end file p + 1)).end })
    (record { fields = 1; end = field_end file p })
    (λ (e : Extent). p ≤ e.end)
    (λ h. omega (arith, extent_after n file (field_end file p + 1), field_after file p))
    (λ h. field_after file p)

-- a bound of the bytes left is as good as a larger one
pub extent_steady : (n : ℕ) (file : List ℕ) (p : ℕ) → length file ≤ n + p → extent_within n file p ≡ extent_within (suc n) file p
extent_steady zero file p l =
    let past : length file ≤ field_end file p = omega (arith, field_after file p) in
    sym (cond-false (eqb (get_or file (field_end file p) 0) 0x2C) _ _ (no_comma_past file (field_end file p) past))
extent_steady (suc n) file p l =
    ap
    (λ (e : Extent). cond (eqb (get_or file (field_end file p) 0) 0x2C) (record { fields = 1 + e.fields; end = e.end }) (record { fields = 1; end = field_end file p }))
    (extent_steady n file (field_end file p + 1) (omega (arith, field_after file p)))

pub extent_more : (file : List ℕ) (p : ℕ) →
    extent_at file p ≡ cond (eqb (get_or file (field_end file p) 0) 0x2C) (record { fields = 1 + (extent_at file (field_end file p + 1)).fields; end = (extent_at file (field_end file p + 1)).end }) (record { fields = 1; end = field_end file p })
extent_more file p = extent_steady (length file) file p (omega arith)

-- two ways to go on agree where they agree on what a passed test brings
pub cond_same : {X : Type 0} (b : Bool) (x y z : X) → (b ≡ true → x ≡ y) → cond b x z ≡ cond b y z
cond_same true x y z h = h refl
cond_same false x y z h = refl

pub records_steady : (n : ℕ) (file : List ℕ) (p : ℕ) → p < length file → length file ≤ n + p → records_within n file p ≡ records_within (suc n) file p
records_steady zero file p h l = absurd (omega arith)
records_steady (suc n) file p h l =
    let q : ℕ = (extent_at file p).end + 2 in
    ap (λ (rs : List (List Piece)). record_at file p ∷ rs)
    (cond_same (ltb q (length file)) _ _ [] (λ t. records_steady n file q (ltb-true q (length file) t) (omega (arith, extent_after (length file) file p))))

pub records_more : (file : List ℕ) (p : ℕ) →
    records_at file p ≡ record_at file p ∷ cond (ltb ((extent_at file p).end + 2) (length file)) (records_at file ((extent_at file p).end + 2)) []
records_more file p =
    let q : ℕ = (extent_at file p).end + 2 in
    rw (add-one (length file))
    (ap (λ (rs : List (List Piece)). record_at file p ∷ rs)
    (cond_same (ltb q (length file)) _ _ [] (λ t. records_steady (length file) file q (ltb-true q (length file) t) (omega arith))))
