-- Every structure of a net begins before the net's end. The idea: a structure takes at least its own first word and no reader goes back,
-- so that a structure begins before the position where it ends, and it ends no later than the net.
-- One law for each way of making a reader, and one for a structure of a first word and a rest. Rests on Readers and Accepted.
use mathlib.Core.Path.{◌≡◌, refl}
use mathlib.Core.Bool.{Bool, ◌&&◌}
use mathlib.Core.List.{List}
use Prim.Native.Nat.{ℕ, zero, suc, ◌+◌, ◌≤◌, ◌<◌}
use native.Mathlib.Omega.{arith}
use lib.Dec.{leb, ltb, eqb}
use lib.ListN.{length}
use Rattle.semantics.specs.Refusal.{most_words}
use Rattle.semantics.specs.Lists.{Every}
use Rattle.semantics.specs.Word.{kind, payload, bits, only, between}
use Rattle.semantics.specs.Reading.{Reading, read, then, Reader, several, word_at, word}
use Rattle.semantics.specs.Net.{Place, Arc, Conjunct, Element, Transition, Net, ranges_at}
use Rattle.semantics.specs.ReadNet.{read_place, read_arc, read_conjunct, read_element, transition_word, read_transition, net_word, read_net}
use Rattle.semantics.specs.Plan.{accept_front, accept_net}
use Rattle.semantics.proofs.Readers.{Gives, gives, refusal, given, then_gives, demand_gives, cond_gives, weaken, ReadsFrom, Reads, done, after, several-reads}
use Rattle.semantics.proofs.Accepted.{expression_reads, range-reads, read-inside, inside_0, front_read, accepted-read}

-- ── What begins before an end ──

-- a transition and its parts begin before an end
pub record TransitionInside (end : ℕ) (t : Transition) : Type 0 where
  pub position : t.position < end
  pub inputs : Every (λ (a : Arc). a.position < end) t.inputs
  pub outputs : Every (λ (a : Arc). a.position < end) t.outputs
  pub guard : Every (λ (c : Conjunct). c.position < end) t.guard
  pub plan : Every (λ (e : Element). e.position < end) t.plan

-- so do all structures of a net
pub record NetInside (end : ℕ) (net : Net) : Type 0 where
  pub places : Every (λ (q : Place). q.position < end) net.places
  pub transitions : Every (TransitionInside end) net.transitions

-- ── Readers ──

module _ (end : ℕ) where
  -- a reading from a position does not go back, and where it ends by `end`, what it reads has a property
  abbrev ByFrom : {A : Type 0} → (A → Type 0) → ℕ → Reading A → Type 0
  ByFrom P at x = Gives (λ a next. (at ≤ next) × (next ≤ end → P a)) x

  -- so does a reader from every position
  abbrev By : {A : Type 0} → (A → Type 0) → Reader A → Type 0
  By P r = (at : ℕ) → ByFrom P at (r at)

module _ {end : ℕ} where
  -- nothing more is read
  last : {A : Type 0} {P : A → Type 0} {at : ℕ} {a : A} → P a → ByFrom end P at (read a at)
  last {at} h = gives {next = at} (omega arith, λ e. h)

  -- a reading, and what comes after it: where that ends by `end`, so does the reading
  onward : {A B : Type 0} {P : A → Type 0} {Q : B → Type 0} {at : ℕ} {x : Reading A} {k : A → Reader B} → ByFrom end P at x → ((a : A) (mid : ℕ) → ByFrom end (λ b. P a → Q b) mid (k a mid)) → ByFrom end Q at (then x k)
  onward l f = then_gives l (λ a mid h. weaken (λ b next q. (omega arith, λ e. q.1 e (h.1 (omega arith)))) (f a mid))

  several_by : {A : Type 0} {P : A → Type 0} {r : Reader A} (n : ℕ) → By end P r → By end (Every P) (several n r)
  unfolding several
  several_by zero l at = last tt
  several_by (suc n) l at = onward (l at) λ a mid. onward (several_by n l mid) λ as' next. last λ hs h. (h, hs)

-- what never goes back, whatever it reads
forth : {A : Type 0} {P : A → Type 0} {end at : ℕ} {ws : List ℕ} {x : Reading A} → ReadsFrom ws P at x → ByFrom end P at x
forth l = weaken (λ a next h. (h.1, λ e. h.0)) l

module _ (ws : List ℕ) (k : ℕ) (ok : ℕ → Bool) {end : ℕ} where
  -- a word stands before where its reading ends
  word_by : (at : ℕ) → ByFrom end (λ w. at < end) at (word ws k ok at)
  unfolding word word_at
  word_by at =
      onward (cond_gives (leb (length ws) at) (λ e. refusal) λ e. cond_gives (leb most_words at) (λ f. refusal) λ f. gives {next = at + 1} (omega arith, λ g. omega arith)) λ w mid.
      demand_gives (eqb (kind w) k && ok (payload w)) at λ e.
      last λ h. h

  -- a structure of a first word and a rest begins before where its reading ends
  structure_by : {A : Type 0} {position : A → ℕ} {rest : ℕ → ℕ → Reader A} → ((at w : ℕ) → Reads ws (λ a. position a ≡ at) (rest at w)) → By end (λ a. position a < end) (λ at. then (word ws k ok at) (rest at))
  structure_by l at =
      onward (word_by at) λ w mid.
      weaken (λ a next q. (q.1, λ e first. omega arith)) (l at w mid)

-- ── Structures ──

module _ (ws : List ℕ) (end : ℕ) where
  place_by : By end (λ (q : Place). q.position < end) (read_place ws)
  unfolding read_place
  place_by = structure_by ws 2 (between 1 4) λ at n _. after (several-reads n (range-reads ws)) λ rs _ s. done refl

  arc_by : (places : List Place) (v : ℕ) → By end (λ (a : Arc). a.position < end) (read_arc ws places v)
  unfolding read_arc
  arc_by places v =
      structure_by ws 5 (λ q. ltb q (length places)) λ at q _.
      after (expression_reads ws v) λ c _ p.
      after (several-reads (length (ranges_at places q)) (expression_reads ws v)) λ es _ s.
      done refl

  conjunct_by : (v : ℕ) → By end (λ (c : Conjunct). c.position < end) (read_conjunct ws v)
  unfolding read_conjunct
  conjunct_by v = structure_by ws 6 (only 2) λ at k _. after (expression_reads ws v) λ a _ p. after (expression_reads ws v) λ b _ q. done refl

  element_by : By end (λ (e : Element). e.position < end) (read_element ws)
  unfolding read_element
  element_by = structure_by ws 0xA _ λ at w _. done refl

  transition_by : (places : List Place) → By end (TransitionInside end) (read_transition ws places)
  unfolding read_transition
  transition_by places at =
      onward (word_by ws 4 transition_word at) λ w _.
      onward (forth (several-reads (bits 0 3 w) (range-reads ws) _)) λ vs _.
      onward (several_by (bits 4 7 w) (arc_by places (bits 0 3 w)) _) λ is _.
      onward (several_by (bits 8 11 w) (arc_by places (bits 0 3 w)) _) λ os _.
      onward (several_by (bits 12 15 w) (conjunct_by (bits 0 3 w)) _) λ gs _.
      onward (several_by (bits 16 19 w) element_by _) λ es _.
      last λ e g o i v first. record { position = first; inputs = i; outputs = o; guard = g; plan = e }

  net_by : By end (NetInside end) (read_net ws)
  unfolding read_net
  net_by at =
      onward (word_by ws 1 net_word at) λ w _.
      onward (several_by (bits 8 15 w) place_by _) λ ps _.
      onward (several_by (bits 0 7 w) (transition_by ps) _) λ ts _.
      last λ t p first. record { places = p; transitions = t }

-- ── Nets ──

-- the structures of a net that was read begin before where it ends, and so before every later end
pub positions_inside : (ws : List ℕ) (at : ℕ) (net : Net) (next end : ℕ) → read_net ws at ≡ read net next → next ≤ end → NetInside end net
positions_inside ws at net next end e h = (given (net_by ws end at) e).1 h

module _ (ws : List ℕ) (net : Net) (next : ℕ) where
  -- the positions of a net at the front of words are positions of words, and below 16,384
  pub read_in_words : read_net ws 0 ≡ read net next → NetInside (length ws) net
  read_in_words e = positions_inside ws 0 net next (length ws) e (read-inside ws 0 net next e (inside_0 ws)).in_words

  pub read_in_limit : read_net ws 0 ≡ read net next → NetInside most_words net
  read_in_limit e = positions_inside ws 0 net next most_words e (read-inside ws 0 net next e (inside_0 ws)).in_limit

  -- an accepted net at the front of words
  pub front_positions : accept_front ws ≡ read net next → NetInside next net
  front_positions e = positions_inside ws 0 net next next (front_read ws net next e) (omega arith)

  pub front_in_words : accept_front ws ≡ read net next → NetInside (length ws) net
  front_in_words e = read_in_words (front_read ws net next e)

  -- an accepted net alone, which ends where its words end
  pub accepted_positions : accept_net ws ≡ read net next → NetInside (length ws) net
  accepted_positions e = read_in_words (accepted-read ws net next e)
