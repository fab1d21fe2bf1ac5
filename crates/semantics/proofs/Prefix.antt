-- No reader looks past the word 16,384: words and their first 16,385 are read alike. So check and test answer on the first 16,385 words what
-- they answer on all of them, and a caller that copies words need not copy more.
-- The idea: from a position of at most 16,384 both take the same word or refuse alike, and a reader that succeeds ends at such a position.
-- One law for each way of making a reader; each structure follows its reader line by line. Rests on Tests, Spans and ReadEntries.
use mathlib.Core.Path.{◌≡◌, refl, sym, ap, ◌∙◌}
use mathlib.Core.Logic.{◌⊎◌, inl, inr}
use mathlib.Core.Bool.{Bool, true, false, cond, ◌&&◌}
use mathlib.Core.List.{List, [], ◌∷◌}
use mathlib.Core.Option.{Option, none, some}
use Prim.Native.Nat.{ℕ, zero, suc, ◌+◌, ◌≤◌, ◌<◌}
use native.Mathlib.Omega.{arith}
use borrow.Author.Tests.{leb-true, leb-false, le-leb, lt-leb, lt-ltb, le-ltb}
use lib.Dec.{leb, ltb, eqb}
use lib.IntN.{ℤ}
use lib.ListN.{length, get_or, get_elem?, take, length-take}
use lib.Seq.{get_or-take}
use Rattle.semantics.specs.Refusal.{net_too_long, net_ends_early, bad_marking, bad_binding, most_words, most_expression_words}
use Rattle.semantics.specs.Word.{kind, payload, bits, only, between, Range}
use Rattle.semantics.specs.Expression.{Expression}
use Rattle.semantics.specs.Reading.{Reading, read, refused, then, Reader, several, demand, word_at, word, values_in, ended, numbered}
use Rattle.semantics.specs.Net.{Place, Transition, Net, ranges_at}
use Rattle.semantics.specs.ReadNet.{Head, constant_head, variable_head, binary_head, load_head, operator_head, head_of, head_at, operands, expression_in, read_expression, read_range, read_place, read_arc, read_conjunct, read_element, transition_word, read_transition, net_word, read_net}
use Rattle.semantics.specs.Plan.{plans_fault, with_plans, accept_net}
use Rattle.semantics.specs.Order.{before}
use Rattle.semantics.specs.Marking.{Entry, key, read_entry, read_entries, read_marking, read_binding}
use Rattle.semantics.specs.Calls.{verdict, check_call, existing, situation, Situation, tested_by, tested_in, test_call}
use Rattle.semantics.proofs.Tests.{either}
use Rattle.semantics.proofs.Spans.{read_same, demand-read}
use Rattle.semantics.proofs.ReadEntries.{entry_read_lem}

-- ── Readings that are alike ──

-- two readings give the same and end at a position of at most 16,384, or both are refused alike
pub data Alike {A : Type 0} : Reading A → Reading A → Type 0 where
  alike : {a : A} {next : ℕ} → next ≤ most_words → Alike (read a next) (read a next)
  refusal : {n p : ℕ} → Alike (refused n p) (refused n p)

module _ {A : Type 0} where
  pub same : {x y : Reading A} → Alike x y → x ≡ y
  same (alike h) = refl
  same refusal = refl

  pub then_alike : {B : Type 0} {x y : Reading A} {k l : A → ℕ → Reading B} → Alike x y → ((a : A) (next : ℕ) → x ≡ read a next → next ≤ most_words → Alike (k a next) (l a next)) → Alike (then x k) (then y l)
  then_alike (alike h) f = f _ _ refl h
  then_alike refusal f = refusal

  demand_alike : {x y : Reading A} (t : Bool) (p : ℕ) → Alike x y → Alike (demand t p x) (demand t p y)
  demand_alike true p h = h
  demand_alike false p h = refusal

  cond_alike : {x y u v : Reading A} (t : Bool) → Alike x y → Alike u v → Alike (cond t x u) (cond t y v)
  cond_alike true h i = h
  cond_alike false h i = i

-- two readers are alike from every position of at most 16,384
abbrev pub Agree : {A : Type 0} → Reader A → Reader A → Type 0
Agree r s = (at : ℕ) → at ≤ most_words → Alike (r at) (s at)

-- a reader, and what comes after it
onward : {A B : Type 0} {r s : Reader A} {k l : A → Reader B} {at : ℕ} → Agree r s → at ≤ most_words → ((a : A) → Agree (k a) (l a)) → Alike (then (r at) k) (then (s at) l)
onward a h f = then_alike (a _ h) λ x next e i. f x next i

several_alike : {A : Type 0} {r s : Reader A} (n : ℕ) → Agree r s → Agree (several n r) (several n s)
unfolding several
several_alike zero a at h = alike h
several_alike (suc n) a at h = onward a h λ x mid i. onward (several_alike n a) i λ xs next j. alike j

-- an entry takes at least its TOKEN
entry_forth : (places : List Place) (ws : List ℕ) (at : ℕ) (e : Entry) (next : ℕ) → read_entry places ws at ≡ read e next → at < next
entry_forth places ws at e next r = let s = entry_read_lem places ws at e next r in let t = s.0.after in omega arith

-- ── Words that agree ──

-- words that are the same below the word 16,384, and end alike up to there
pub record Front (ws us : List ℕ) : Type 0 where
  pub ends : (at : ℕ) → at ≤ most_words → leb (length ws) at ≡ leb (length us) at
  pub left : (at : ℕ) → at ≤ most_words → ltb at (length ws) ≡ ltb at (length us)
  pub lengths : length ws ≤ most_words → length ws ≡ length us
  pub words : (at : ℕ) → at < most_words → get_or ws at 0 ≡ get_or us at 0

pub front : (ws : List ℕ) → Front ws (take 16385 ws)
front ws =
    let l = length-take 16385 ws in
    let m : (at : ℕ) → length ws ≤ at → length (take 16385 ws) ≤ at = λ at h. omega arith in
    let n : (at : ℕ) → at ≤ most_words → at < length ws → at < length (take 16385 ws) = λ at h i. omega arith in
    record {
      ends = λ at h. leb_by at (either (leb (length ws) at)) (m at) (n at h);
      left = λ at h. ltb_by at (either (leb (length ws) at)) (m at) (n at h);
      lengths = λ h. omega arith;
      words = λ at h. sym (get_or-take 16385 ws at 0 (omega arith));
    }
  where
    leb_by : (at : ℕ) → (leb (length ws) at ≡ true) ⊎ (leb (length ws) at ≡ false) → (length ws ≤ at → length (take 16385 ws) ≤ at) → (at < length ws → at < length (take 16385 ws)) → leb (length ws) at ≡ leb (length (take 16385 ws)) at
    leb_by at (inl e) f g = e ∙ sym (le-leb (length (take 16385 ws)) at (f (leb-true (length ws) at e)))
    leb_by at (inr e) f g = e ∙ sym (lt-leb (length (take 16385 ws)) at (g (leb-false (length ws) at e)))

    ltb_by : (at : ℕ) → (leb (length ws) at ≡ true) ⊎ (leb (length ws) at ≡ false) → (length ws ≤ at → length (take 16385 ws) ≤ at) → (at < length ws → at < length (take 16385 ws)) → ltb at (length ws) ≡ ltb at (length (take 16385 ws))
    ltb_by at (inl e) f g =
        let h = leb-true (length ws) at e in
        le-ltb at (length ws) h ∙ sym (le-ltb at (length (take 16385 ws)) (f h))
    ltb_by at (inr e) f g =
        let h = leb-false (length ws) at e in
        lt-ltb at (length ws) h ∙ sym (lt-ltb at (length (take 16385 ws)) (g h))

module _ (ws us : List ℕ) (f : Front ws us) where
  word_at_alike : Agree (word_at ws) (word_at us)
  unfolding word_at
  word_at_alike at h = rw (← f.ends at h) (by (leb (length ws) at) refl (leb most_words at) refl)
    where
      by : (s : Bool) → leb (length ws) at ≡ s → (t : Bool) → leb most_words at ≡ t → Alike (cond s (refused net_ends_early (length ws)) (cond t (refused net_too_long most_words) (read (get_or ws at 0) (at + 1)))) (cond s (refused net_ends_early (length us)) (cond t (refused net_too_long most_words) (read (get_or us at 0) (at + 1))))
      by true p t q = rw (f.lengths (omega (arith, leb-true (length ws) at p))) refusal
      by false p true q = refusal
      by false p false q = let g = leb-false most_words at q in let m : at + 1 ≤ most_words = omega arith in rw (f.words at g) (alike m)

  word_alike : (k : ℕ) (ok : ℕ → Bool) → Agree (word ws k ok) (word us k ok)
  unfolding word
  word_alike k ok at h = onward word_at_alike h λ w next i. demand_alike (eqb (kind w) k && ok (payload w)) at (alike i)

  values_alike : (rs : List Range) → Agree (values_in ws rs) (values_in us rs)
  unfolding values_in
  values_alike [] at h = alike h
  values_alike (r ∷ rs) at h = onward (word_alike 0xC _) h λ v mid i. onward (values_alike rs) i λ vs next j. alike j

  ended_alike : {A : Type 0} (a : A) → Agree (ended ws a) (ended us a)
  ended_alike a at h = rw (f.ends at h) (demand_alike (leb (length us) at) at (alike h))

  -- ── Nets ──

  operator_alike : (code at next : ℕ) → next ≤ most_words → Alike (operator_head code at next) (operator_head code at next)
  unfolding operator_head
  operator_alike code at next h =
      cond_alike (eqb code 0) (alike h)
      (cond_alike (eqb code 1) (alike h)
      (cond_alike (eqb code 2) (alike h)
      (cond_alike (eqb code 3) (alike h)
      (cond_alike (eqb code 4) (alike h)
      refusal))))

  head_alike : (v w at next : ℕ) → next ≤ most_words → Alike (head_of v w at next) (head_of v w at next)
  unfolding head_of
  head_alike v w at next h =
      cond_alike (eqb (kind w) 7) (demand_alike (only 14 (payload w)) at (alike h))
      (cond_alike (eqb (kind w) 8) (demand_alike (ltb (payload w) v) at (alike h))
      (cond_alike (eqb (kind w) 9) (operator_alike (payload w) at next h)
      refusal))

  head_at_alike : (v stop : ℕ) → Agree (head_at ws v stop) (head_at us v stop)
  unfolding head_at
  head_at_alike v stop at h = onward word_at_alike h λ w next i. demand_alike (ltb at stop) at (head_alike v w at next i)

  operands_alike : {r s : Reader Expression} → Agree r s → (t : Head) → Agree (operands r t) (operands s t)
  operands_alike a (constant_head z) at h = alike h
  operands_alike a (variable_head n) at h = alike h
  operands_alike a (binary_head o) at h = onward a h λ x mid i. onward a i λ y next j. alike j
  operands_alike a load_head at h = onward a h λ x next i. alike i

  rounds_alike : (n v stop : ℕ) → Agree (expression_in n ws v stop) (expression_in n us v stop)
  unfolding expression_in
  rounds_alike zero v stop at h = refusal
  rounds_alike (suc n) v stop at h = onward (head_at_alike v stop) h (operands_alike (rounds_alike n v stop))

  expression_alike : (v : ℕ) → Agree (read_expression ws v) (read_expression us v)
  unfolding read_expression
  expression_alike v at h = rounds_alike (most_expression_words + 1) v (at + most_expression_words) at h

  range_alike : Agree (read_range ws) (read_range us)
  unfolding read_range
  range_alike at h = onward (word_alike 3 _) h λ w next i. alike i

  place_alike : Agree (read_place ws) (read_place us)
  unfolding read_place
  place_alike at h = onward (word_alike 2 (between 1 4)) h λ n _ i. onward (several_alike n range_alike) i λ rs _ j. alike j

  arc_alike : (places : List Place) (v : ℕ) → Agree (read_arc ws places v) (read_arc us places v)
  unfolding read_arc
  arc_alike places v at h =
      onward (word_alike 5 (λ q. ltb q (length places))) h λ q _ i.
      onward (expression_alike v) i λ c _ j.
      onward (several_alike (length (ranges_at places q)) (expression_alike v)) j λ es _ k.
      alike k

  conjunct_alike : (v : ℕ) → Agree (read_conjunct ws v) (read_conjunct us v)
  unfolding read_conjunct
  conjunct_alike v at h =
      onward (word_alike 6 (only 2)) h λ k _ i.
      onward (expression_alike v) i λ a _ j.
      onward (expression_alike v) j λ b _ l.
      alike l

  element_alike : Agree (read_element ws) (read_element us)
  unfolding read_element
  element_alike at h = onward (word_alike 0xA _) h λ w _ i. alike i

  transition_alike : (places : List Place) → Agree (read_transition ws places) (read_transition us places)
  unfolding read_transition
  transition_alike places at h =
      onward (word_alike 4 transition_word) h λ w _ a.
      onward (several_alike (bits 0 3 w) range_alike) a λ vs _ b.
      onward (several_alike (bits 4 7 w) (arc_alike places (bits 0 3 w))) b λ is _ c.
      onward (several_alike (bits 8 11 w) (arc_alike places (bits 0 3 w))) c λ os _ d.
      onward (several_alike (bits 12 15 w) (conjunct_alike (bits 0 3 w))) d λ gs _ e.
      onward (several_alike (bits 16 19 w) element_alike) e λ es _ i.
      alike i

  net_alike : Agree (read_net ws) (read_net us)
  unfolding read_net
  net_alike at h =
      onward (word_alike 1 net_word) h λ w _ i.
      onward (several_alike (bits 8 15 w) place_alike) i λ ps _ j.
      onward (several_alike (bits 0 7 w) (transition_alike ps)) j λ ts _ k.
      alike k

  plans_alike : (fault : Option ℕ) (net : Net) → Agree (with_plans fault net) (with_plans fault net)
  plans_alike none net at h = alike h
  plans_alike (some p) net at h = refusal

  accepted_alike : Alike (accept_net ws) (accept_net us)
  unfolding accept_net
  accepted_alike =
      onward net_alike (omega arith) λ net next h.
      rw (f.left next h) (cond_alike (ltb next (length us)) refusal (plans_alike (plans_fault net.transitions) net next h))

  -- ── Markings and bindings ──

  entry_alike : (places : List Place) → Agree (read_entry places ws) (read_entry places us)
  unfolding read_entry
  entry_alike places at h =
      onward (word_alike 0xB _) h λ w _ i.
      onward (values_alike (ranges_at places (bits 14 21 w))) i λ c _ j.
      alike j

  -- the number of rounds does not matter where there is one for each word that is left
  entries_alike : (n m : ℕ) (places : List Place) (last : List ℤ) (at : ℕ) → at ≤ most_words → length ws ≤ at + n → length us ≤ at + m → Alike (read_entries n places ws last at) (read_entries m places us last at)
  unfolding read_entries
  entries_alike zero zero places last at h i j = ended_alike [] at h
  entries_alike zero (suc m) places last at h i j =
      let e = le-leb (length ws) at (omega arith) in
      rw (← f.ends at h, e) (alike h)
  entries_alike (suc n) zero places last at h i j =
      let e = le-leb (length us) at (omega arith) in
      rw (f.ends at h, e) (alike h)
  entries_alike (suc n) (suc m) places last at h i j =
      rw (f.ends at h)
      (cond_alike (leb (length us) at) (alike h)
      (then_alike (entry_alike places at h) λ e mid r k.
      let g = entry_forth places ws at e mid r in
      let t = before last (key e.place e.colour) in
      then_alike (demand_alike t at (alike k)) λ d next q l.
      let o = (read_same e d mid next (demand-read t at (read e mid) d next q).1).1 in
      then_alike (entries_alike n m places (key d.place d.colour) next l (omega arith) (omega arith)) λ es end _ u.
      alike u))

  marking_alike : (net : Net) → read_marking net ws ≡ read_marking net us
  unfolding read_marking
  marking_alike net = ap (numbered bad_marking) (same (entries_alike (length ws) (length us) net.places [] 0 (omega arith) (omega arith) (omega arith)))

  binding_alike : (t : Transition) → read_binding t ws ≡ read_binding t us
  unfolding read_binding
  binding_alike t = ap (numbered bad_binding) (same (onward (values_alike t.variables) (omega arith) (ended_alike)))

-- ── Calls ──

module _ (ws : List ℕ) where
  -- a net alone is accepted or refused by its first 16,385 words
  pub accept_prefix : accept_net ws ≡ accept_net (take 16385 ws)
  accept_prefix = same (accepted_alike ws (take 16385 ws) (front ws))

  pub check_prefix : check_call ws ≡ check_call (take 16385 ws)
  unfolding check_call
  check_prefix = ap verdict accept_prefix

  pub marking_prefix : (net : Net) → read_marking net ws ≡ read_marking net (take 16385 ws)
  marking_prefix = marking_alike ws (take 16385 ws) (front ws)

  pub binding_prefix : (t : Transition) → read_binding t ws ≡ read_binding t (take 16385 ws)
  binding_prefix = binding_alike ws (take 16385 ws) (front ws)

then_same : {A B : Type 0} {k l : A → ℕ → Reading B} (x : Reading A) → ((a : A) (next : ℕ) → k a next ≡ l a next) → then x k ≡ then x l
then_same (read a next) f = f a next
then_same (refused n p) f = refl

pub situation_prefix : (net : List ℕ) (t : ℕ) (marking : List ℕ) → situation net t marking ≡ situation (take 16385 net) t (take 16385 marking)
unfolding situation
situation_prefix net t marking =
    rw (← accept_prefix net)
    (then_same (accept_net net) λ n _.
    then_same (existing (get_elem? n.transitions t)) λ tr _.
    rw (marking_prefix marking n) refl)

pub test_prefix : (net : List ℕ) (t : ℕ) (marking binding : List ℕ) → test_call net t marking binding ≡ test_call (take 16385 net) t (take 16385 marking) (take 16385 binding)
unfolding test_call
test_prefix net t marking binding = rw (← situation_prefix net t marking) (by (situation net t marking))
  where
    by : (x : Reading Situation) → tested_in binding x ≡ tested_in (take 16385 binding) x
    by (read s next) = ap (tested_by s) (binding_prefix binding s.transition)
    by (refused n p) = refl
