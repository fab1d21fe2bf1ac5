-- A net at the front of words is the net of the words up to its end, and no refusal of words has the number 0.
-- The idea: a reading that ends by some position reads the same from the words cut there, since no reader goes back. One law for each way of
-- making a reader, so that the law of a structure is written as its reader is, line by line. Rests on Accepted and Spans.
use mathlib.Core.Path.{◌≡◌, refl, sym, ap, ◌∙◌}
use mathlib.Core.Bool.{Bool, true, false, cond, ◌&&◌}
use mathlib.Core.List.{List}
use mathlib.Core.Option.{Option, none, some}
use Prim.Native.Nat.{ℕ, zero, suc, ◌+◌, ◌%◌, ◌≤◌, ◌<◌}
use native.Mathlib.Omega.{arith}
use borrow.Author.Tests.{leb-false, lt-leb, le-ltb}
use lib.Dec.{leb, ltb, eqb}
use lib.ListN.{length, get_or, take, length-take}
use lib.Seq.{get_or-take}
use Rattle.semantics.specs.Refusal.{net_too_long, net_ends_early, most_words, most_expression_words}
use Rattle.semantics.specs.Word.{kind, payload, bits, only, between}
use Rattle.semantics.specs.Expression.{Expression}
use Rattle.semantics.specs.Reading.{Reading, read, refused, then, Reader, several, demand, word_at, word}
use Rattle.semantics.specs.Net.{Place, Net, ranges_at}
use Rattle.semantics.specs.ReadNet.{Head, constant_head, variable_head, binary_head, load_head, operator_head, head_of, head_at, operands, expression_in, read_expression, read_range, read_place, read_arc, read_conjunct, read_element, transition_word, read_transition, net_word, read_net}
use Rattle.semantics.specs.Plan.{plans_fault, with_plans, accept_front, accept_net}
use Rattle.semantics.proofs.Accepted.{front_read, accepted-read}
use Rattle.semantics.proofs.Spans.{refused-read, read_same, then-read, several-length, word_read, drop-first}

-- ── Readings ──

module _ (end : ℕ) where
  -- a reading x from a position does not go back, and where it ends by `end`, y is the same; a refusal has a number
  data Kept {A : Type 0} (at : ℕ) (y : Reading A) : Reading A → Type 0 where
    kept : {a : A} {next : ℕ} → at ≤ next → (next ≤ end → y ≡ read a next) → Kept at y (read a next)
    refusal : {n p : ℕ} → 1 ≤ n → Kept at y (refused n p)

  abbrev Keeps : {A : Type 0} → Reader A → Reader A → Type 0
  Keeps s r = (at : ℕ) → Kept at (s at) (r at)

module _ {end : ℕ} where
  done : {A : Type 0} {at : ℕ} {a : A} → Kept end at (read a at) (read a at)
  done {at} = kept {next = at} (omega arith) (λ e. refl)

  after : {A B : Type 0} {at mid : ℕ} {y : Reading A} {a : A} {z : Reading B} (l : A → Reader B) → at ≤ mid → (mid ≤ end → y ≡ read a mid) → Kept end mid (l a mid) z → Kept end at (then y l) z
  after l h f (kept {next = next} g q) = kept {next = next} (omega arith) (λ e. ap (λ (x : Reading _). then x l) (f (omega arith)) ∙ q e)
  after l h f (refusal g) = refusal g

  onward : {A B : Type 0} {at : ℕ} {x y : Reading A} {k l : A → Reader B} → Kept end at y x → ((a : A) (mid : ℕ) → Kept end mid (l a mid) (k a mid)) → Kept end at (then y l) (then x k)
  onward {l = l} (kept h f) g = after l h f (g _ _)
  onward (refusal h) g = refusal h

  demand-kept : {A : Type 0} {at : ℕ} {x y : Reading A} (t : Bool) (p : ℕ) → Kept end at y x → Kept end at (demand t p y) (demand t p x)
  demand-kept true p h = h
  demand-kept false p h = refusal {n = 3} (omega arith)

  cond-kept : {A : Type 0} {at : ℕ} {x y u v : Reading A} (t : Bool) → Kept end at y x → Kept end at v u → Kept end at (cond t y v) (cond t x u)
  cond-kept true h g = h
  cond-kept false h g = g

  several-kept : {A : Type 0} {r s : Reader A} (n : ℕ) → Keeps end s r → Keeps end (several n s) (several n r)
  unfolding several
  several-kept zero k at = done
  several-kept (suc n) k at = onward (k at) λ a mid. onward (several-kept n k mid) λ as' next. done

-- ── Words cut at an end ──

module _ (ws : List ℕ) (end : ℕ) where
  word_at-kept : Keeps end (word_at (take end ws)) (word_at ws)
  unfolding word_at
  word_at-kept at = by (leb (length ws) at) refl (leb most_words at) refl
    where
      cut : (s : Bool) → leb (length ws) at ≡ false → leb most_words at ≡ s → at + 1 ≤ end → cond (leb (length (take end ws)) at) (refused net_ends_early (length (take end ws))) (cond s (refused net_too_long most_words) (read (get_or (take end ws) at 0) (at + 1))) ≡ cond s (refused net_too_long most_words) (read (get_or ws at 0) (at + 1))
      cut s p q h =
          let l = length-take end ws in
          let g = leb-false (length ws) at p in
          let i : at < end = omega arith in
          rw (lt-leb (length (take end ws)) at (omega arith), get_or-take end ws at 0 i) refl

      by : (s : Bool) → leb (length ws) at ≡ s → (t : Bool) → leb most_words at ≡ t → Kept end at (cond (leb (length (take end ws)) at) (refused net_ends_early (length (take end ws))) (cond t (refused net_too_long most_words) (read (get_or (take end ws) at 0) (at + 1)))) (cond s (refused net_ends_early (length ws)) (cond t (refused net_too_long most_words) (read (get_or ws at 0) (at + 1))))
      by true p t q = refusal {n = net_ends_early} (omega arith)
      by false p true q = refusal {n = net_too_long} (omega arith)
      by false p false q = kept {next = at + 1} (omega arith) (cut false p q)

  word_kept : (k : ℕ) (ok : ℕ → Bool) → Keeps end (word (take end ws) k ok) (word ws k ok)
  unfolding word
  word_kept k ok at = onward (word_at-kept at) λ w next. demand-kept (eqb (kind w) k && ok (payload w)) at done

  operator_kept : (code at next : ℕ) → Kept end next (operator_head code at next) (operator_head code at next)
  unfolding operator_head
  operator_kept code at next =
      cond-kept (eqb code 0) done
      (cond-kept (eqb code 1) done
      (cond-kept (eqb code 2) done
      (cond-kept (eqb code 3) done
      (cond-kept (eqb code 4) done
      (refusal {n = 3} (omega arith))))))

  head-kept : (v w at next : ℕ) → Kept end next (head_of v w at next) (head_of v w at next)
  unfolding head_of
  head-kept v w at next =
      cond-kept (eqb (kind w) 7) (demand-kept (only 14 (payload w)) at done)
      (cond-kept (eqb (kind w) 8) (demand-kept (ltb (payload w) v) at done)
      (cond-kept (eqb (kind w) 9) (operator_kept (payload w) at next)
      (refusal {n = 3} (omega arith))))

  head_at-kept : (v stop : ℕ) → Keeps end (head_at (take end ws) v stop) (head_at ws v stop)
  unfolding head_at
  head_at-kept v stop at = onward (word_at-kept at) λ w next. demand-kept (ltb at stop) at (head-kept v w at next)

  operands-kept : {r s : Reader Expression} → Keeps end s r → (t : Head) → Keeps end (operands s t) (operands r t)
  operands-kept k (constant_head z) at = done
  operands-kept k (variable_head n) at = done
  operands-kept k (binary_head o) at = onward (k at) λ a mid. onward (k mid) λ b next. done
  operands-kept k load_head at = onward (k at) λ a next. done

  rounds-kept : (n v stop : ℕ) → Keeps end (expression_in n (take end ws) v stop) (expression_in n ws v stop)
  unfolding expression_in
  rounds-kept zero v stop at = refusal {n = 3} (omega arith)
  rounds-kept (suc n) v stop at = onward (head_at-kept v stop at) (operands-kept (rounds-kept n v stop))

  expression_kept : (v : ℕ) → Keeps end (read_expression (take end ws) v) (read_expression ws v)
  unfolding read_expression
  expression_kept v at = rounds-kept (most_expression_words + 1) v (at + most_expression_words) at

  range-kept : Keeps end (read_range (take end ws)) (read_range ws)
  unfolding read_range
  range-kept at = onward (word_kept 3 _ at) λ w next. done

  place_kept : Keeps end (read_place (take end ws)) (read_place ws)
  unfolding read_place
  place_kept at = onward (word_kept 2 (between 1 4) at) λ n mid. onward (several-kept n range-kept mid) λ rs next. done

  arc-kept : (places : List Place) (v : ℕ) → Keeps end (read_arc (take end ws) places v) (read_arc ws places v)
  unfolding read_arc
  arc-kept places v at =
      onward (word_kept 5 (λ q. ltb q (length places)) at) λ q a.
      onward (expression_kept v a) λ c b.
      onward (several-kept (length (ranges_at places q)) (expression_kept v) b) λ es next.
      done

  conjunct-kept : (v : ℕ) → Keeps end (read_conjunct (take end ws) v) (read_conjunct ws v)
  unfolding read_conjunct
  conjunct-kept v at =
      onward (word_kept 6 (only 2) at) λ k a.
      onward (expression_kept v a) λ x b.
      onward (expression_kept v b) λ y next.
      done

  element-kept : Keeps end (read_element (take end ws)) (read_element ws)
  unfolding read_element
  element-kept at = onward (word_kept 0xA _ at) λ w next. done

  transition-kept : (places : List Place) → Keeps end (read_transition (take end ws) places) (read_transition ws places)
  unfolding read_transition
  transition-kept places at =
      onward (word_kept 4 transition_word at) λ w a.
      onward (several-kept (bits 0 3 w) range-kept a) λ vs b.
      onward (several-kept (bits 4 7 w) (arc-kept places (bits 0 3 w)) b) λ is c.
      onward (several-kept (bits 8 11 w) (arc-kept places (bits 0 3 w)) c) λ os d.
      onward (several-kept (bits 12 15 w) (conjunct-kept (bits 0 3 w)) d) λ gs e.
      onward (several-kept (bits 16 19 w) element-kept e) λ es next.
      done

  net-kept : Keeps end (read_net (take end ws)) (read_net ws)
  unfolding read_net
  net-kept at =
      onward (word_kept 1 net_word at) λ w a.
      onward (several-kept (bits 8 15 w) place_kept a) λ ps b.
      onward (several-kept (bits 0 7 w) (transition-kept ps) b) λ ts next.
      done

-- ── Nets ──

module _ {end : ℕ} where
  kept_read : {A : Type 0} {at : ℕ} {x y : Reading A} {a : A} {next : ℕ} → Kept end at y x → x ≡ read a next → next ≤ end → y ≡ read a next
  kept_read {a = a} {next} (kept {a = b} {next = n} h f) e g = let s = read_same b a n next e in let m = s.1 in rw (← s.0, ← s.1) (f (omega arith))
  kept_read {a = a} {next} (refusal {n = n} {p = p} h) e g = refused-read n p a next e

module _ (ws : List ℕ) (net : Net) (next : ℕ) (e : accept_front ws ≡ read net next) where
  cut_read : read_net (take next ws) 0 ≡ read net next
  cut_read = kept_read (net-kept ws next 0) (front_read ws net next e) (omega arith)

  -- the net at the front is accepted alone
  pub front-alone : accept_net (take next ws) ≡ read net next
  unfolding accept_front accept_net
  front-alone =
      let l = length-take next ws in
      let p : with_plans (plans_fault net.transitions) net next ≡ read net next = rw (front_read ws net next e) at e in
      rw (cut_read, le-ltb next (length (take next ws)) (omega arith)) p

-- a refusal of words has a number
pub front-refused : (ws : List ℕ) (n p : ℕ) → accept_front ws ≡ refused n p → 1 ≤ n
unfolding accept_front
front-refused ws n p e = by (net-kept ws 0 0) e
  where
    number : Reading Net → ℕ
    number (read a q) = 1
    number (refused m q) = m

    plans : (fault : Option ℕ) (a : Net) (q : ℕ) → 1 ≤ number (with_plans fault a q)
    plans none a q = omega arith
    plans (some s) a q = omega arith

    by : {x y : Reading Net} → Kept 0 0 y x → then x (λ a q. with_plans (plans_fault a.transitions) a q) ≡ refused n p → 1 ≤ n
    by (kept {a = a} {next = q} h f) g = rw (ap number g) at (plans (plans_fault a.transitions) a q)
    by (refusal {n = m} h) g = rw (ap number g) at h

-- ── The number of transitions ──

-- the first word says how many transitions there are
pub record Headed (ws : List ℕ) (net : Net) : Type 0 where
  pub some_word : 0 < length ws
  pub counted : length net.transitions ≡ get_or ws 0 0 % 256

pub headed : (ws : List ℕ) (net : Net) (next : ℕ) → accept_net ws ≡ read net next → Headed ws net
unfolding read_net
headed ws net next h =
    then-read (word ws 1 net_word 0) _ net next (accepted-read ws net next h) λ w a p q.
    then-read (several (bits 8 15 w) (read_place ws) a) _ net next q λ ps b p' q'.
    then-read (several (bits 0 7 w) (read_transition ws ps) b) _ net next q' λ ts c r s.
    let f = word_read ws 1 net_word 0 w a p in
    let g = drop-first ws 0 f.0 _ f.1.split in
    let l = several-length (read_transition ws ps) (bits 0 7 w) b ts c r in
    let m : length net.transitions ≡ length ts = ap (λ (n : Net). length n.transitions) (sym (read_same _ net c next s).0) in
    let u = f.3 in
    let v = g.1 in
    record { some_word = g.0; counted = omega arith }
