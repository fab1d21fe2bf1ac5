-- What an accepted net is like (01, "Words", and refusals 1 to 5): every limit that the words state holds of the data read. Counts are in
-- their bounds, values have fourteen bits, arcs name places that there are with an expression for each component, expressions name
-- variables of their transition, every plan is without fault, and a net alone fills its words.
-- The law of a structure follows its reader line by line, by the laws of Readers. Rests on Readers and Tests.
use mathlib.Core.Path.{◌≡◌, refl}
use mathlib.Core.Bool.{Bool, true, false, cond, ◌&&◌}
use mathlib.Core.List.{List, [], Memᴰ}
use mathlib.Core.Option.{Option, none, some}
use Prim.Native.Nat.{ℕ, zero, suc, ◌+◌, ◌-◌, ◌≤◌, ◌<◌}
use native.Mathlib.Omega.{arith}
use borrow.Author.Tests.{ltb-true, ltb-false, leb-true}
use lib.Dec.{leb, ltb, eqb}
use lib.IntN.{pos, negsuc}
use lib.Signed.{mag, le_z}
use lib.ListN.{length}
use Rattle.semantics.specs.Refusal.{most_expression_words}
use Rattle.semantics.specs.Lists.{Every}
use Rattle.semantics.specs.Word.{kind, payload, bits, only, between, signed, Range}
use Rattle.semantics.specs.Expression.{Expression, every_variable}
use Rattle.semantics.specs.Reading.{read}
use Rattle.semantics.specs.Net.{Place, Arc, Conjunct, Transition, Net, ranges_at}
use Rattle.semantics.specs.ReadNet.{Head, constant_head, variable_head, binary_head, load_head, operator_head, head_of, head_at, operands, expression_in, read_expression, read_range, read_place, read_arc, read_conjunct, read_element, transition_word, read_transition, net_word, read_net}
use Rattle.semantics.specs.Plan.{plan_fault, first_of, plans_fault, with_plans, accept_front, accept_net}
use Rattle.semantics.proofs.Tests.{and_left, and_right, and_both}
use Rattle.semantics.proofs.Readers.{Gives, gives, refusal, given, then_gives, demand_gives, cond_gives, as_read, Inside, ReadsFrom, Reads, done, after, several-reads, word_at-reads, word-reads}

-- ── What is sound ──

-- values of fourteen bits, the low one not above the high one
pub record Valued (r : Range) : Type 0 where
  pub low : mag r.low < 8192
  pub high : mag r.high < 8192
  pub ordered : le_z r.low r.high ≡ true

-- a place has one to four components
pub record SoundPlace (q : Place) : Type 0 where
  pub some-components : 1 ≤ length q.ranges
  pub few-components : length q.ranges ≤ 4
  pub valued : Every Valued q.ranges

-- the variables of an expression are below v
abbrev pub SoundExpression : ℕ → Expression → Type 0
SoundExpression v e = every_variable (λ n. ltb n v) e ≡ true

-- an arc names a place that there is, with an expression for each of its components; v is the number of variables, here and below
pub record SoundArc (places : List Place) (v : ℕ) (a : Arc) : Type 0 where
  pub there : a.place < length places
  pub width : length a.components ≡ length (ranges_at places a.place)
  pub coefficient : SoundExpression v a.coefficient
  pub components : Every (SoundExpression v) a.components

pub record SoundConjunct (v : ℕ) (c : Conjunct) : Type 0 where
  pub left : SoundExpression v c.left
  pub right : SoundExpression v c.right

pub record SoundTransition (places : List Place) (t : Transition) : Type 0 where
  pub few-variables : length t.variables ≤ 8
  pub valued : Every Valued t.variables
  pub few-inputs : length t.inputs ≤ 8
  pub inputs : Every (SoundArc places (length t.variables)) t.inputs
  pub few-outputs : length t.outputs ≤ 8
  pub outputs : Every (SoundArc places (length t.variables)) t.outputs
  pub few-conjuncts : length t.guard ≤ 8
  pub guard : Every (SoundConjunct (length t.variables)) t.guard
  pub few_elements : length t.plan ≤ 8

pub record SoundNet (net : Net) : Type 0 where
  pub some-places : 1 ≤ length net.places
  pub few-places : length net.places ≤ 64
  pub places : Every SoundPlace net.places
  pub some-transitions : 1 ≤ length net.transitions
  pub few-transitions : length net.transitions ≤ 64
  pub transitions : Every (SoundTransition net.places) net.transitions

-- ── Values and expressions ──

pub signed-small : (u : ℕ) → u < 16384 → mag (signed u) < 8192
signed-small u h = by (ltb u 8192) refl
  where
    by : (t : Bool) → ltb u 8192 ≡ t → mag (cond t (pos u) (negsuc (16383 - u))) < 8192
    by true e = ltb-true u 8192 e
    by false e = omega (arith, ltb-false u 8192 e)

-- the variable that a token names is below v
abbrev SoundHead : ℕ → Head → Type 0
SoundHead v (constant_head z) = Unit {0}
SoundHead v (variable_head n) = ltb n v ≡ true
SoundHead v (binary_head o) = Unit {0}
SoundHead v load_head = Unit {0}

module _ (ws : List ℕ) (v : ℕ) where
  operator_reads : (code at next : ℕ) → ReadsFrom ws (SoundHead v) next (operator_head code at next)
  unfolding operator_head
  operator_reads code at next =
      cond_gives (eqb code 0) (λ e. done tt) λ e.
      cond_gives (eqb code 1) (λ e. done tt) λ e.
      cond_gives (eqb code 2) (λ e. done tt) λ e.
      cond_gives (eqb code 3) (λ e. done tt) λ e.
      cond_gives (eqb code 4) (λ e. done tt) λ e.
      refusal

  token_reads : (stop : ℕ) → Reads ws (SoundHead v) (head_at ws v stop)
  unfolding head_at head_of
  token_reads stop at =
      after (word_at-reads ws) λ w next _.
      demand_gives (ltb at stop) at λ e.
      cond_gives (eqb (kind w) 7) (λ e. demand_gives (only 14 (payload w)) at λ d. done tt) λ e.
      cond_gives (eqb (kind w) 8) (λ e. demand_gives (ltb (payload w) v) at λ d. done d) λ e.
      cond_gives (eqb (kind w) 9) (λ e. operator_reads (payload w) at next) λ e.
      refusal

  rounds-read : (n stop : ℕ) → Reads ws (SoundExpression v) (expression_in n ws v stop)
  unfolding expression_in every_variable
  rounds-read zero stop at = refusal
  rounds-read (suc n) stop at = after (token_reads stop) (by (rounds-read n stop))
    where
      by : Reads ws (SoundExpression v) (expression_in n ws v stop) → (t : Head) (mid : ℕ) → SoundHead v t → ReadsFrom ws (SoundExpression v) mid (operands (expression_in n ws v stop) t mid)
      by l (constant_head z) mid h = done refl
      by l (variable_head m) mid h = done h
      by l (binary_head o) mid h = after l λ a _ p. after l λ b _ q. done (and_both _ _ p q)
      by l load_head mid h = after l λ a _ p. done p

  pub expression_reads : Reads ws (SoundExpression v) (read_expression ws v)
  unfolding read_expression
  expression_reads at = rounds-read (most_expression_words + 1) (at + most_expression_words) at

-- ── Structures ──

both : (a b : Bool) → (a && b) ≡ true → (a ≡ true) × (b ≡ true)
both a b h = (and_left a b h, and_right a b h)

pub between_true : (low high n : ℕ) → between low high n ≡ true → (low ≤ n) × (n ≤ high)
between_true low high n h = let p = both (leb low n) (leb n high) h in (leb-true low n p.0, leb-true n high p.1)

-- the counts of a TRANSITION word
pub few-counts : (o : Bool) (a b c d e : ℕ) → (o && leb a 8 && leb b 8 && leb c 8 && leb d 8 && leb e 8) ≡ true → (a ≤ 8) × (b ≤ 8) × (c ≤ 8) × (d ≤ 8) × (e ≤ 8)
few-counts o a b c d e h =
    let to-e = both (o && leb a 8 && leb b 8 && leb c 8 && leb d 8) (leb e 8) h in
    let to-d = both (o && leb a 8 && leb b 8 && leb c 8) (leb d 8) to-e.0 in
    let to-c = both (o && leb a 8 && leb b 8) (leb c 8) to-d.0 in
    let to-b = both (o && leb a 8) (leb b 8) to-c.0 in
    let to-a = both o (leb a 8) to-b.0 in
    (leb-true a 8 to-a.1, leb-true b 8 to-b.1, leb-true c 8 to-c.1, leb-true d 8 to-d.1, leb-true e 8 to-e.1)

module _ (ws : List ℕ) where
  pub range-reads : Reads ws Valued (read_range ws)
  unfolding read_range
  range-reads at =
      after (word-reads ws 3 _) λ w _ h.
      done (record { low = signed-small (bits 14 27 w) (omega arith); high = signed-small (bits 0 13 w) (omega arith); ordered = h })

  place-reads : Reads ws SoundPlace (read_place ws)
  unfolding read_place
  place-reads at =
      after (word-reads ws 2 (between 1 4)) λ n _ h.
      after (several-reads n range-reads) λ rs _ s.
      let few = between_true 1 4 n h in
      done (record { some-components = omega arith; few-components = omega arith; valued = s.1 })

  arc-reads : (places : List Place) (v : ℕ) → Reads ws (SoundArc places v) (read_arc ws places v)
  unfolding read_arc
  arc-reads places v at =
      after (word-reads ws 5 (λ q. ltb q (length places))) λ q _ h.
      after (expression_reads ws v) λ c _ p.
      after (several-reads (length (ranges_at places q)) (expression_reads ws v)) λ es _ s.
      done (record { there = ltb-true q (length places) h; width = s.0; coefficient = p; components = s.1 })

  conjunct-reads : (v : ℕ) → Reads ws (SoundConjunct v) (read_conjunct ws v)
  unfolding read_conjunct
  conjunct-reads v at =
      after (word-reads ws 6 (only 2)) λ k _ h.
      after (expression_reads ws v) λ a _ p.
      after (expression_reads ws v) λ b _ q.
      done (record { left = p; right = q })

  element-reads : Reads ws (λ e. Unit {0}) (read_element ws)
  unfolding read_element
  element-reads at = after (word-reads ws 0xA _) λ w _ h. done tt

  transition-reads : (places : List Place) → Reads ws (SoundTransition places) (read_transition ws places)
  unfolding read_transition
  transition-reads places at =
      after (word-reads ws 4 transition_word) λ w _ h.
      after (several-reads (bits 0 3 w) range-reads) λ vs _ v.
      after (several-reads (bits 4 7 w) (arc-reads places (bits 0 3 w))) λ is _ i.
      after (several-reads (bits 8 11 w) (arc-reads places (bits 0 3 w))) λ os _ o.
      after (several-reads (bits 12 15 w) (conjunct-reads (bits 0 3 w))) λ gs _ g.
      after (several-reads (bits 16 19 w) element-reads) λ es _ e.
      let few = few-counts (only 20 w) (bits 0 3 w) (bits 4 7 w) (bits 8 11 w) (bits 12 15 w) (bits 16 19 w) h in
      done (record {
        few-variables = omega arith;
        valued = v.1;
        few-inputs = omega arith;
        inputs = rw v.0 i.1;
        few-outputs = omega arith;
        outputs = rw v.0 o.1;
        few-conjuncts = omega arith;
        guard = rw v.0 g.1;
        few_elements = omega arith;
      })

  net-reads : Reads ws SoundNet (read_net ws)
  unfolding read_net
  net-reads at =
      after (word-reads ws 1 net_word) λ w _ h.
      after (several-reads (bits 8 15 w) place-reads) λ ps _ p.
      after (several-reads (bits 0 7 w) (transition-reads ps)) λ ts _ t.
      let to-t = both (only 16 w && between 1 64 (bits 8 15 w)) (between 1 64 (bits 0 7 w)) h in
      let to-p = both (only 16 w) (between 1 64 (bits 8 15 w)) to-t.0 in
      let few-p = between_true 1 64 (bits 8 15 w) to-p.1 in
      let few-t = between_true 1 64 (bits 0 7 w) to-t.1 in
      done (record {
        some-places = omega arith;
        few-places = omega arith;
        places = p.1;
        some-transitions = omega arith;
        few-transitions = omega arith;
        transitions = t.1;
      })

pub read_sound : (ws : List ℕ) (at : ℕ) (net : Net) (next : ℕ) → read_net ws at ≡ read net next → SoundNet net
read_sound ws at net next e = (given (net-reads ws at) e).0

pub transition_sound : (ws : List ℕ) (places : List Place) (at : ℕ) (t : Transition) (next : ℕ) → read_transition ws places at ≡ read t next → SoundTransition places t
transition_sound ws places at t next e = (given (transition-reads ws places at) e).0

pub read-inside : (ws : List ℕ) (at : ℕ) (net : Net) (next : ℕ) → read_net ws at ≡ read net next → Inside ws at → Inside ws next
read-inside ws at net next e = (given (net-reads ws at) e).2

-- ── Accepted nets ──

both_none : (p q : Option ℕ) → first_of p q ≡ none → (p ≡ none) × (q ≡ none)
both_none (some p) q e = (e, cc)
both_none none q e = (refl, e)

no_fault : {t : Transition} {ts : List Transition} → plans_fault ts ≡ none → Memᴰ t ts → plan_fault t [] t.plan ≡ none
unfolding plans_fault
no_fault e (Memᴰ.head {x = u} {xs = us} q) = rw q (both_none (plan_fault u [] u.plan) (plans_fault us) e).0
no_fault e (Memᴰ.tail {x = u} {xs = us} k) = no_fault (both_none (plan_fault u [] u.plan) (plans_fault us) e).1 k

with_plans_gives : {Q : Net → ℕ → Type 0} {net : Net} {next : ℕ} (f : Option ℕ) → (f ≡ none → Gives Q (read net next)) → Gives Q (with_plans f net next)
with_plans_gives none q = q refl
with_plans_gives (some p) q = refusal

module _ (ws : List ℕ) where
  front_gives : Gives (λ net next. (read_net ws 0 ≡ read net next) × (plans_fault net.transitions ≡ none)) (accept_front ws)
  unfolding accept_front
  front_gives = then_gives (as_read (read_net ws 0)) λ net next e. with_plans_gives (plans_fault net.transitions) λ f. gives (e, f)

  alone_gives : Gives (λ net next. (read_net ws 0 ≡ read net next) × (plans_fault net.transitions ≡ none) × (length ws ≤ next)) (accept_net ws)
  unfolding accept_net
  alone_gives =
      then_gives (as_read (read_net ws 0)) λ net next e.
      cond_gives (ltb next (length ws)) (λ g. refusal) λ g.
      with_plans_gives (plans_fault net.transitions) λ f.
      gives (e, f, ltb-false next (length ws) g)

  pub inside_0 : Inside ws 0
  inside_0 = record { in_words = omega arith; in_limit = omega arith }

module _ (ws : List ℕ) (net : Net) (next : ℕ) where
  -- a net at the front of words
  pub front_read : accept_front ws ≡ read net next → read_net ws 0 ≡ read net next
  front_read e = (given (front_gives ws) e).0

  pub front_sound : accept_front ws ≡ read net next → SoundNet net
  front_sound e = read_sound ws 0 net next (front_read e)

  pub front-inside : accept_front ws ≡ read net next → Inside ws next
  front-inside e = read-inside ws 0 net next (front_read e) (inside_0 ws)

  -- a net alone
  pub accepted-read : accept_net ws ≡ read net next → read_net ws 0 ≡ read net next
  accepted-read e = (given (alone_gives ws) e).0

  pub accepted_sound : accept_net ws ≡ read net next → SoundNet net
  accepted_sound e = read_sound ws 0 net next (accepted-read e)

  pub accepted_planned : accept_net ws ≡ read net next → (t : Transition) → Memᴰ t net.transitions → plan_fault t [] t.plan ≡ none
  accepted_planned e t k = no_fault (given (alone_gives ws) e).1 k

  pub accepted-inside : accept_net ws ≡ read net next → Inside ws next
  accepted-inside e = read-inside ws 0 net next (accepted-read e) (inside_0 ws)

  pub accepted-whole : accept_net ws ≡ read net next → next ≡ length ws
  accepted-whole e = let i = accepted-inside e in let w = (given (alone_gives ws) e).2 in omega arith
