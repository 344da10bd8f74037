-- Numbers along ways: with a positive resistance for each line, distances and responses tell the order along ways.
use Rattle.std.proofs.Common.{◌≡◌, ℕ, ◌+◌, ◌<◌, ◌≤◌, ◌⊎◌, List, sum_by, sym, refl, ap, ◌∙◌, subst, inl, inr, ⊎_elim, arith}
use Rattle.std.proofs.lemmas.List.Sums.{sum_by-cons}
use Rattle.feeder.specs.Way.{Way, On, here, above, shared}
use Rattle.feeder.proofs.Ways.{on_pos, on_trans, on_chain, way_top, way_up, shared_up, shared_own, shared_sym, meet, Meet}

module _ {p : ℕ → ℕ} {way : ℕ → List ℕ} (is_way : (b : ℕ) → Way p b (way b)) (r : ℕ → ℕ) (positive : (b : ℕ) → 0 < b → 1 ≤ r b) where
  -- the distance of b
  abbrev far : ℕ → ℕ
  far b = sum_by r (way b)

  -- the response of n to m
  abbrev resp : ℕ → ℕ → ℕ
  resp n m = sum_by r (shared (way n) (way m))

  pub distance_top : sum_by r (way 0) ≡ 0
  distance_top = ap (sum_by r) (way_top is_way)

  pub distance_up : (b : ℕ) → 0 < b → sum_by r (way b) ≡ r b + sum_by r (way (p b))
  distance_up b h = ap (sum_by r) (way_up is_way b h) ∙ sum_by-cons r b (way (p b))

  pub distance_pos : (b : ℕ) → 0 < b → 0 < far b
  distance_pos b h = omega (arith, distance_up b h, positive b h)

  -- up a way distances fall
  pub on_le : {c b : ℕ} → On p c b → far c ≤ far b
  on_le (here h) = omega arith
  on_le (above {b = b} h o) = omega (arith, on_le o, distance_up b h)

  pub on_lt : {c b : ℕ} → On p c b → (c ≡ b) ⊎ (far c < far b)
  on_lt (here h) = inl refl
  on_lt (above {b = b} h o) = inr (omega (arith, on_le o, distance_up b h, positive b h))

  -- of two buses on one way the nearer lies on the other's way
  pub on_by_distance : {c d b : ℕ} → On p c b → On p d b → far c ≤ far d → On p c d
  on_by_distance {c} {d} o u h = ⊎_elim (λ x. x) (λ v. ⊎_elim (λ e. subst (λ t. On p t d) e (subst (λ t. On p d t) (sym e) v)) (λ l. absurd (omega arith)) (on_lt v)) (on_chain o u)

  -- on one way a distance names one bus
  pub on_same : {c d b : ℕ} → On p c b → On p d b → far c ≡ far d → c ≡ d
  on_same o u e = ⊎_elim (λ x. x) (λ l. absurd (omega arith)) (on_lt (on_by_distance o u (omega arith)))

  -- a response is the distance of the meet
  pub response_meet : {n m q : ℕ} → Meet is_way n m q → resp n m ≡ far q
  response_meet k = ap (sum_by r) k.common

  pub response_sym : (n m : ℕ) → resp n m ≡ resp m n
  response_sym n m = ap (sum_by r) (shared_sym is_way n m)

  pub response_own : (n : ℕ) → resp n n ≡ far n
  response_own n = ap (sum_by r) (shared_own is_way n)

  -- a bus that does not lie on m's way responds to m as its parent does
  pub response_up : (n m : ℕ) → 0 < n → (On p n m → ⊥) → resp n m ≡ resp (p n) m
  response_up n m h z = ap (sum_by r) (shared_up is_way n m h z)

  -- a bus on n's way lies on m's way exactly when it is no farther than the response of n to m
  pub on_response : {c n : ℕ} (m : ℕ) → On p c n → On p c m → far c ≤ resp n m
  on_response {c} {n} m o u = let k = (meet is_way n m).1 in omega (arith, on_le (k.lowest c o u), response_meet k)

  pub response_on : {c n : ℕ} (m : ℕ) → On p c n → far c ≤ resp n m → On p c m
  response_on {c} {n} m o l = ⊎_elim none one k.both
    where
      q : ℕ
      q = (meet is_way n m).0

      k : Meet is_way n m q
      k = (meet is_way n m).1

      none : q ≡ 0 → On p c m
      none z = absurd (omega (arith, distance_pos c (on_pos o), response_meet k, ap far z, distance_top))

      one : On p q n × On p q m → On p c m
      one t = on_trans (on_by_distance o t.0 (omega (arith, response_meet k))) t.1

  pub response_le : (n m : ℕ) → resp n m ≤ far n
  response_le n m = ⊎_elim (λ z. omega (arith, response_meet k, ap far z, distance_top)) (λ t. omega (arith, response_meet k, on_le t.0)) k.both
    where
      k : Meet is_way n m (meet is_way n m).0
      k = (meet is_way n m).1

  -- the response is the whole distance exactly when the bus lies on m's way
  pub response_whole : (n m : ℕ) → 0 < n → resp n m ≡ far n → On p n m
  response_whole n m h e = response_on m (here h) (omega arith)

  pub whole_response : (n m : ℕ) → On p n m → resp n m ≡ far n
  whole_response n m o = omega (arith, response_le n m, on_response m (here (on_pos o)) o)
