-- Bytes are a file or have one first byte that no file has there.
use Rattle.std.proofs.Common.{◌≡◌, ℕ, ◌+◌, ◌<◌, ◌≤◌, List, ◌++◌, length, take, drop, sym, ap, ◌∙◌, subst, ⊎_elim, arith}
use Rattle.std.proofs.lemmas.List.{append_assoc, take-append-drop, take-take}
use Rattle.std.proofs.lemmas.Bool.{cases_lt, cases_order}
use Rattle.rfc4180.specs.Grammar.{Records, last, above, File, Csv, Begins, Impossible}
use Rattle.rfc4180.specs.Places.{place_records, Parse, records_of}

-- a file of the grammar has no impossible place
pub possible : (bytes : List ℕ) (i : ℕ) → Csv bytes → Impossible bytes i → ⊥
possible bytes i csv bad =
    ⊎_elim
    (λ h. bad.byte h (drop (i + 1) bytes, subst Csv (sym (take-append-drop (i + 1) bytes)) csv))
    (λ h. bad.end (omega (arith, bad.within)) csv)
    (cases_lt i (length bytes))

pub parsed : (bytes : List ℕ) (f : File) (i : ℕ) → Parse f bytes → Impossible bytes i → ⊥
parsed bytes f i parse bad = possible bytes i (f, parse.good, parse.text) bad

-- the front of what a file begins with begins a file
begins_before : (bytes : List ℕ) (i j : ℕ) → i ≤ j → Begins (take j bytes) → Begins (take i bytes)
begins_before bytes i j l (rest, csv) =
    let front = take j bytes in
    (drop i front ++ rest, subst Csv (ap (λ xs. xs ++ rest) (sym (take-append-drop i front)) ∙ append_assoc (take i front) (drop i front) rest ∙ ap (λ xs. xs ++ (drop i front ++ rest)) (take-take i j bytes l)) csv)

-- no byte behind the first impossible one is it too
not_behind : (bytes : List ℕ) (i j : ℕ) → i < j → Impossible bytes i → Impossible bytes j → ⊥
not_behind bytes i j l a b = a.byte (omega (arith, b.within)) (begins_before bytes (i + 1) j (omega (arith, l)) b.before)

pub one_impossible : (bytes : List ℕ) (i j : ℕ) → Impossible bytes i → Impossible bytes j → i ≡ j
one_impossible bytes i j a b = ⊎_elim (λ e. e) (⊎_elim (λ l. absurd (not_behind bytes i j l a b)) (λ l. absurd (not_behind bytes j i l b a))) (cases_order i j)

-- a file has a record
pub records_some : (f : File) → 1 ≤ length (records_of f)
records_some f = go f.records
  where
    go : (rs : Records) → 1 ≤ length (place_records 0 rs)
    go (last r) = omega arith
    go (above r rs) = omega arith
