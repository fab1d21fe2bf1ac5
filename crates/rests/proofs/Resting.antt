-- The rules of the table of arcs to look up: writing nine more numbers keeps those before them.
use mathlib.Core.Path.{◌≡◌, sym, ap, ◌∙◌}
use mathlib.Core.Logic.{◌⊎◌, inl, inr}
use mathlib.Core.List.{List, ◌++◌}
use Prim.Native.Nat.{ℕ, ◌+◌, ◌*◌, ◌-◌, ◌≤◌, ◌<◌}
use native.Mathlib.Nat.{eq-or-lt_of_le}
use native.Mathlib.Omega.{arith}
use lib.ListN.{length, get_or, take, drop, length-append, length-take, length-drop, take-append-drop}
use lib.Seq.{length-take-le, take-append-le, drop-append-le, take_at, drop_at}
use Rattle.semantics.specs.Net.{Net}
use Rattle.starts.specs.Known.{NetKnown}
use Rattle.rests.specs.Rests.{Restable, Rest, RestsKept}
use Rattle.rests.proofs.Chosen.{known-number, few, restable}

-- a part from a number to as many more
pub part-is : (from n : ℕ) (l : List ℕ) → take (from + n - from) (drop from l) ≡ take n (drop from l)
part-is from n l = let d : from + n - from ≡ n = omega arith in ap (λ (k : ℕ). take k (drop from l)) d

-- a part of the front
in_front : (a n : ℕ) (p r : List ℕ) → a + n ≤ length p → take n (drop a (p ++ r)) ≡ take n (drop a p)
in_front a n p r h = ap (take n) (drop-append-le a p r (omega arith)) ∙ take-append-le n (drop a p) r (let l = length-drop a p in omega arith)

-- it stays where another part is written behind it
stays : (a n m : ℕ) (l r : List ℕ) → a + n ≤ m → m ≤ length l → take n (drop a (take m l ++ r)) ≡ take n (drop a l)
stays a n m l r h i =
    let k = length-take-le m l i in
    in_front a n (take m l) r (omega arith)
    ∙ sym (in_front a n (take m l) (drop m l) (omega arith))
    ∙ ap (λ (x : List ℕ). take n (drop a x)) (take-append-drop m l)

module _ {ws ps transitions parts : List ℕ} where
  -- what the next nine numbers are made out from, and where they are written
  pub rests_next : {net : Net} {n : ℕ} {table : List ℕ} → NetKnown ws ps transitions parts net → n < length transitions → RestsKept ws ps transitions parts n table → Restable ws ps (get_or ws (get_or transitions n 0) 0) (take (n * 32 + 32 - n * 32) (drop (n * 32) parts)) × (length (take (n * 9 + 9 - n * 9) (drop (n * 9) table)) ≡ 9)
  rests_next {n = n} {table = table} N h K =
      let k = known-number N h in
      let f = few N k in
      let l = K.long in
      let d = length-drop (n * 9) table in
      let t = length-take (n * 9 + 9 - n * 9) (drop (n * 9) table) in
      (rw (part-is (n * 32) 32 parts) (restable N k), omega arith)

  module _ {n : ℕ} {table row : List ℕ} (K : RestsKept ws ps transitions parts n table) (small : n < 64) (R : Rest ws ps (get_or ws (get_or transitions n 0) 0) (take (n * 32 + 32 - n * 32) (drop (n * 32) parts)) row) where
    abbrev after : List ℕ
    after = take (n * 9) table ++ (row ++ drop (n * 9 + 9 - n * 9) (drop (n * 9) table))

    before : length (take (n * 9) table) ≡ n * 9
    before = let l = K.long in length-take-le (n * 9) table (omega arith)

    wide : length after ≡ 576
    wide =
        let a = length-append (take (n * 9) table) (row ++ drop (n * 9 + 9 - n * 9) (drop (n * 9) table)) in
        let b = length-append row (drop (n * 9 + 9 - n * 9) (drop (n * 9) table)) in
        let d = length-drop (n * 9 + 9 - n * 9) (drop (n * 9) table) in
        let e = length-drop (n * 9) table in
        let f = before in
        let l = K.long in
        let r = R.long in
        omega arith

    own_row : take 9 (drop (n * 9) after) ≡ row
    own_row = ap (take 9) (drop_at (take (n * 9) table) (row ++ drop (n * 9 + 9 - n * 9) (drop (n * 9) table)) (n * 9) before) ∙ take_at row (drop (n * 9 + 9 - n * 9) (drop (n * 9) table)) 9 R.long

    pub rests_more : RestsKept ws ps transitions parts (n + 1) after
    rests_more = record { long = wide; each = λ t h. by t (eq-or-lt_of_le (omega arith)) }
      where
        by : (t : ℕ) → (t ≡ n) ⊎ (t < n) → Rest ws ps (get_or ws (get_or transitions t 0) 0) (take 32 (drop (t * 32) parts)) (take 9 (drop (t * 9) after))
        by t (inl e) = rw (e, own_row) (rw (part-is (n * 32) 32 parts) at R)
        by t (inr l) = rw (stays (t * 9) 9 (n * 9) table (row ++ drop (n * 9 + 9 - n * 9) (drop (n * 9) table)) (omega arith) (let k = K.long in omega arith)) (K.each t l)
