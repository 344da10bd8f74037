-- The fields that a record keeps, one by one.
use Rattle.std.proofs.Common.{◌≡◌, ℕ, ◌<◌, List, length, map, min, take, get_or, sym, ap, ◌∙◌, arith}
use Rattle.std.proofs.lemmas.List.{get_or-map, get_or-take, length-map, length-take}
use Rattle.rfc4180.specs.declared.field.Field.{Field}
use Rattle.rfc4180.specs.Places.{Piece}
use Rattle.rfc4180.specs.Field.{piece}

-- as many are kept as there are, up to the most
pub kept_len : (xs : List Field) (ps : List Piece) (most : ℕ) → map piece xs ≡ take most ps → length xs ≡ min most (length ps)
kept_len xs ps most kept = sym (length-map xs piece) ∙ ap length kept ∙ length-take most ps

-- the k-th of those that are kept is the k-th of all
pub kept_at : (xs : List Field) (ps : List Piece) (most : ℕ) → map piece xs ≡ take most ps → (k : ℕ) (f : Field) (p : Piece) → k < length xs →
    piece (get_or xs k f) ≡ get_or ps k p
kept_at xs ps most kept k f p l =
    sym (get_or-map piece xs k f p l)
    ∙ ap (λ (qs : List Piece). get_or qs k p) kept
    ∙ get_or-take most ps k p (omega (arith, l, kept_len xs ps most kept))
