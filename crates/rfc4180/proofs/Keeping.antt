-- Cutting a record's fields one by one, of which the first are kept.
use Rattle.std.proofs.Common.{◌≡◌, ℕ, suc, ◌-◌, ◌<◌, List, [], ◌∷◌, ◌++◌, length, map, take, sym, ap, ◌∙◌, append_assoc, append-nil, arith}
use Rattle.std.proofs.lemmas.List.{length_push, map-append, take_all}
use Rattle.rfc4180.specs.declared.field.Field.{Field}
use Rattle.rfc4180.specs.Places.{Piece}
use Rattle.rfc4180.specs.Field.{piece}
use Rattle.rfc4180.proofs.Rows.{row_count, row_end}

-- what is kept in the end: the fields that are kept, and those ahead that there is room for
pub keeping : ℕ → List Field → List Piece → List Piece
keeping most kept ahead = map piece kept ++ take (most - length kept) ahead

pub keeping_none : (most : ℕ) (whole : List Piece) → keeping most [] whole ≡ take most whole
unfolding keeping
keeping_none most whole = ap (λ n. take n whole) (let all : most - 0 ≡ most = omega arith in all)

-- a field is kept where there is room
pub keeping_push : (most : ℕ) (kept : List Field) (f : Field) (rest : List Piece) → length kept < most → keeping most (kept ++ f ∷ []) rest ≡ keeping most kept (piece f ∷ rest)
unfolding keeping
keeping_push most kept f rest l =
    let room : suc (most - length (kept ++ f ∷ [])) ≡ most - length kept = omega (arith, length_push kept f) in
    ap (λ ps. ps ++ take (most - length (kept ++ f ∷ [])) rest) (map-append piece kept (f ∷ []))
    ∙ append_assoc (map piece kept) (piece f ∷ []) (take (most - length (kept ++ f ∷ [])) rest)
    ∙ ap (λ n. map piece kept ++ take n (piece f ∷ rest)) room

-- and passed over where there is none
pub keeping_full : (most : ℕ) (kept : List Field) (p : Piece) (rest : List Piece) → length kept ≡ most → keeping most kept rest ≡ keeping most kept (p ∷ rest)
unfolding keeping
keeping_full most kept p rest e =
    let none : most - length kept ≡ 0 = omega arith in
    ap (λ n. map piece kept ++ take n rest) none ∙ sym (ap (λ n. map piece kept ++ take n (p ∷ rest)) none)

pub keeping_all : (most : ℕ) (kept : List Field) → keeping most kept [] ≡ map piece kept
unfolding keeping
keeping_all most kept =
    ap (λ (ps : List Piece). map piece kept ++ ps) (take_all (most - length kept) [] (omega arith)) ∙ append-nil (map piece kept)

-- what the cutting of a record rests on
pub ruleset cutting = (keeping_none, keeping_push, keeping_full, keeping_all, row_count, row_end)
