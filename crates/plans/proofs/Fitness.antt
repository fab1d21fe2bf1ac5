-- What the words say of a plan is what semantics says of the transition that was read there: each part stands at its position, a variable
-- alone is one VARIABLE word, and the variables of an expression are its VARIABLE words.
use mathlib.Core.Path.{◌≡◌, refl, sym, ap, ◌∙◌, fun_ext}
use mathlib.Core.Logic.{◌⊎◌, inl, inr}
use Prim.Native.Nat.{ℕ, zero, suc, ◌+◌, ◌<◌}
use mathlib.Core.Bool.{Bool, true, false, cond, not, ◌&&◌, ◌||◌, and-true}
use mathlib.Core.List.{List, [], ◌∷◌, ◌++◌, map}
use mathlib.Core.Option
use mathlib.Core.Option.{Option, none, some}
use native.Mathlib.Omega.{arith}
use borrow.Author.Tests.{ltb-true, ltb-false, ne_eqb, le-leb, lt-leb}
use lib.Dec.{ltb, eqb, leb}
use lib.ListN.{length, get_or, get_elem?}
use Rattle.semantics.specs.Refusal.{most_words}
use Rattle.semantics.specs.Lists.{Every}
use Rattle.semantics.specs.Word.{kind, payload, signed, between}
use Rattle.semantics.specs.Expression.{Expression, constant, variable, binary, load, every_variable}
use Rattle.semantics.specs.Reading.{read, refused, Reader, several, word_at, word}
use Rattle.semantics.specs.Net.{Place, Arc, equal, unequal, less, at_most, Conjunct, Sort, match, solve, range, Element, Transition}
use Rattle.semantics.specs.ReadNet.{read_expression, read_arc, relation_of, read_conjunct, read_element, read_transition}
use Rattle.semantics.specs.Plan.{lone_unbound, positive_constant, solved_by, either_side, is_equation, solution, solution_binds, match_binds, solve_binds, newly_bound, member, fit_or, plan_fault, plans_fault}
use Rattle.semantics.proofs.Tests.{either, Every-at}
use Rattle.semantics.proofs.Accepted.{SoundExpression, SoundArc, SoundConjunct, SoundTransition}
use Rattle.semantics.proofs.Partial.{member_append}
use Rattle.semantics.proofs.Members.{at_member_lem, map_at}
use Rattle.semantics.proofs.Spans.{several_split, several-length}
use Rattle.expression.specs.Skip as skip
use Rattle.expression.proofs.Spelled.{HeadWord, head_of_tree}
use Rattle.expression.proofs.Laws.{expression_short, variables_flat, first_word, constant-alone}
use Rattle.kinds.specs.Taken.{fits_kind}
use Rattle.net.specs.Skim.{changed, outline, skim_transition, width}
use Rattle.net.proofs.Skimming.{widths_at, skim_transition_lem}
use Rattle.net.specs.Standing.{HasConjunct}
use Rattle.net.proofs.Located.{At, Parts, transition-parts}
use Rattle.net.proofs.Placed.{word-there}
use Rattle.net.proofs.Standing.{sides, conjunct-word, place_of, arc-parts, arc-word}
use Rattle.plans.specs.Fitness.{at_member, binds_at, fault_from, fault_among}
use Rattle.elements.proofs.Binding.{cond_same, unless}
use Rattle.elements.specs.Binds.{after, lone_at, lone_from, match_at, all_bound, first_of, solve_at}

-- ── A variable alone ──

-- a word of another kind is none of this one
word-other : (ws : List ℕ) (k at : ℕ) → at < length ws → at < most_words → (kind (get_or ws at 0) ≡ k → ⊥) → word ws k (fits_kind k) at ≡ refused 3 at
unfolding word word_at
word-other ws k at h i e = rw (lt-leb (length ws) at h, lt-leb most_words at i, ne_eqb (kind (get_or ws at 0)) k e)

-- what an expression has of the unbound variables that stand alone
lone : (ℕ → Bool) → Expression → List ℕ
lone is_bound (constant z) = []
lone is_bound (variable n) = cond (is_bound n) [] (n ∷ [])
lone is_bound (binary o a b) = []
lone is_bound (load a) = []

module _ (ws : List ℕ) (v at : ℕ) (e : Expression) (next : ℕ) (r : read_expression ws v at ≡ read e next) (below : every_variable (λ n. ltb n v) e ≡ true) (is_bound : ℕ → Bool) where
  lone_at_lem : lone_at ws v is_bound at ≡ lone is_bound e
  unfolding lone fits_kind every_variable
  lone_at_lem = by e (first_word ws v at r) below
    where
      short : skip.Ahead ws at next
      short = expression_short ws v at r

      other : (kind (get_or ws at 0) ≡ 8 → ⊥) → lone_at ws v is_bound at ≡ []
      other f = let s = short in rw (word-other ws 8 at (omega arith) (omega arith) f)

      nine : kind (get_or ws at 0) ≡ 9 → kind (get_or ws at 0) ≡ 8 → ⊥
      nine p q = omega arith

      seven : kind (get_or ws at 0) ≡ 7 → kind (get_or ws at 0) ≡ 8 → ⊥
      seven p q = omega arith

      by : (e : Expression) → HeadWord (get_or ws at 0) (head_of_tree e) → every_variable (λ n. ltb n v) e ≡ true → lone_at ws v is_bound at ≡ lone is_bound e
      by (constant z) h b = other (seven h.0)
      by (variable n) h b =
          let s = short in
          let p : ltb (payload (get_or ws at 0)) v ≡ true = rw (← h.1) b in
          rw (word-there ws 8 (fits_kind 8) at (omega arith) (omega arith) h.0 refl, p, h.1) (unless (payload (get_or ws at 0)) (is_bound (payload (get_or ws at 0))))
      by (binary o x y) h b = other (nine h)
      by (load x) h b = other (nine h)

lone_cons : (is_bound : ℕ → Bool) (e : Expression) (es : List Expression) → lone_unbound is_bound (e ∷ es) ≡ lone is_bound e ++ lone_unbound is_bound es
unfolding lone_unbound lone
lone_cons is_bound (constant z) es = refl
lone_cons is_bound (variable n) es = refl
lone_cons is_bound (binary o a b) es = refl
lone_cons is_bound (load a) es = refl

-- the first of several, and the others
several-first : {A : Type 0} (r : Reader A) (k at : ℕ) (x : A) (xs : List A) (next : ℕ) → several (suc k) r at ≡ read (x ∷ xs) next → (mid : ℕ) × (r at ≡ read x mid) × (several k r mid ≡ read xs next)
several-first {A} r k at x xs next e =
    let s = several_split r k at (x ∷ xs) next e in
    let w = s.whole in
    let g : s.first ≡ x = cc in
    let h : s.others ≡ xs = cc in
    (s.mid, s.reads ∙ ap (λ (a : A). read a s.mid) g, s.rest ∙ ap (λ (l : List A). read l next) h)

lone-from : (ws : List ℕ) (v : ℕ) (is_bound : ℕ → Bool) (k at : ℕ) (es : List Expression) (next : ℕ) → several k (read_expression ws v) at ≡ read es next → Every (SoundExpression v) es → lone_from ws v is_bound k at ≡ lone_unbound is_bound es
unfolding lone_from lone_unbound
lone-from ws v is_bound zero at [] next r b = refl
lone-from ws v is_bound zero at (e ∷ es) next r b = let h = several-length (read_expression ws v) zero at (e ∷ es) next r in absurd (omega arith)
lone-from ws v is_bound (suc k) at [] next r b = let h = several-length (read_expression ws v) (suc k) at [] next r in absurd (omega arith)
lone-from ws v is_bound (suc k) at (e ∷ es) next r b =
    let s = several-first (read_expression ws v) k at e es next r in
    rw (lone_at_lem ws v at e s.0 s.1 b.0 is_bound, s.1, lone-from ws v is_bound k s.0 es next s.2 b.1) (sym (lone_cons is_bound e es))

-- ── Match ──

-- a constant's bits say whether it is at least 1
positive_bits : (p : ℕ) → between 1 8191 p ≡ positive_constant (constant (signed p))
positive_bits p = by (either (ltb p 8192))
  where
    low : (t : Bool) → leb p 8191 ≡ true → (leb 1 p && leb p 8191) ≡ leb 1 p
    low t e = rw e (and-true (leb 1 p))

    high : (t : Bool) → leb p 8191 ≡ false → (t && leb p 8191) ≡ false
    high true e = e
    high false e = refl

    by : (ltb p 8192 ≡ true) ⊎ (ltb p 8192 ≡ false) → between 1 8191 p ≡ positive_constant (constant (signed p))
    by (inl e) = let h = ltb-true p 8192 e in rw e (low true (le-leb p 8191 (omega arith)))
    by (inr e) = let h = ltb-false p 8192 e in rw e (high (leb 1 p) (lt-leb p 8191 (omega arith)))

module _ (ws : List ℕ) (v from : ℕ) (k : ℕ → List ℕ) where
  -- what follows a coefficient that is one CONSTANT of at least 1
  coefficient_at : (c : Expression) (mid : ℕ) → read_expression ws v from ≡ read c mid → after (word ws 7 (fits_kind 7) from) (λ z next. cond (between 1 8191 z) (k next) []) ≡ cond (positive_constant c) (k mid) []
  unfolding fits_kind
  coefficient_at c mid r = by c r (first_word ws v from r)
    where
      other : (e : Expression) → read_expression ws v from ≡ read e mid → (kind (get_or ws from 0) ≡ 7 → ⊥) → after (word ws 7 (fits_kind 7) from) (λ z next. cond (between 1 8191 z) (k next) []) ≡ []
      other e r f = let s = expression_short ws v from r in rw (word-other ws 7 from (omega arith) (omega arith) f)

      eight : kind (get_or ws from 0) ≡ 8 → kind (get_or ws from 0) ≡ 7 → ⊥
      eight p q = omega arith

      nine : kind (get_or ws from 0) ≡ 9 → kind (get_or ws from 0) ≡ 7 → ⊥
      nine p q = omega arith

      by : (e : Expression) → read_expression ws v from ≡ read e mid → HeadWord (get_or ws from 0) (head_of_tree e) → after (word ws 7 (fits_kind 7) from) (λ z next. cond (between 1 8191 z) (k next) []) ≡ cond (positive_constant e) (k mid) []
      by (constant z) r h =
          let s = expression_short ws v from r in
          let n = (constant-alone ws v from r h.0).1 in
          rw (word-there ws 7 (fits_kind 7) from (omega arith) (omega arith) h.0 refl, n, h.2, ← positive_bits (payload (get_or ws from 0)))
      by (variable n) r h = other (variable n) r (eight h.0)
      by (binary o x y) r h = other (binary o x y) r (nine h)
      by (load x) r h = other (load x) r (nine h)

match_at_lem : (ws : List ℕ) (places : List Place) (v : ℕ) (is_bound : ℕ → Bool) (a : Arc) → At (read_arc ws places v) (λ (a : Arc). a.position) a → Every (SoundExpression v) a.components → match_at ws (map width places) v is_bound a.position ≡ cond (positive_constant a.coefficient) (lone_unbound is_bound a.components) []
unfolding match_at
match_at_lem ws places v is_bound a here b =
    let p = arc-parts ws places v a.position here.reads in
    let q = place_of ws a.position in
    let w = get_or (map width places) q 0 in
    rw (arc-word ws places v a.position here.reads)
    (coefficient_at ws v (a.position + 1) (lone_from ws v is_bound w) a.coefficient p.mid p.coefficient
    ∙ ap (λ (ns : List ℕ). cond (positive_constant a.coefficient) ns []) (lone-from ws v is_bound w p.mid a.components p.next (rw (← widths_at places q) p.components) b))

-- ── Solve ──

one_or_none : Option ℕ → List ℕ
one_or_none none = []
one_or_none (some n) = n ∷ []

solved-lone : (is_bound : ℕ → Bool) (e other : Expression) → cond (every_variable is_bound other) (lone is_bound e) [] ≡ one_or_none (solved_by is_bound e other)
unfolding lone one_or_none
solved-lone is_bound (constant z) other = cond_same (every_variable is_bound other) []
solved-lone is_bound (variable n) other = by (is_bound n) (every_variable is_bound other)
  where
    by : (u t : Bool) → cond t (cond u [] (n ∷ [])) [] ≡ one_or_none (cond (not u && t) (some n) none)
    by true true = refl
    by true false = refl
    by false true = refl
    by false false = refl
solved-lone is_bound (binary o a b) other = cond_same (every_variable is_bound other) []
solved-lone is_bound (load a) other = cond_same (every_variable is_bound other) []

first_either : (x y : Option ℕ) (a b : Expression) → first_of (one_or_none x) (one_or_none y) ≡ solution_binds (either_side x y a b)
unfolding one_or_none
first_either none none a b = refl
first_either none (some n) a b = refl
first_either (some n) y a b = refl

equation_code : (k : ℕ) → is_equation (relation_of k) ≡ eqb k 0
equation_code k = by (eqb k 0) (eqb k 1) (eqb k 2)
  where
    by : (p q r : Bool) → is_equation (cond p equal (cond q unequal (cond r less at_most))) ≡ p
    by true q r = refl
    by false true r = refl
    by false false true = refl
    by false false false = refl

solve_at_lem : (ws : List ℕ) (v : ℕ) (is_bound : ℕ → Bool) (c : Conjunct) → At (read_conjunct ws v) (λ (c : Conjunct). c.position) c → SoundExpression v c.left → SoundExpression v c.right → solve_at ws v is_bound c.position ≡ solution_binds (solution is_bound c)
unfolding solve_at solution all_bound
solve_at_lem ws v is_bound c here bl br =
    let h : HasConjunct ws v c.position = record { conjunct = c; next = here.next; reads = here.reads } in
    let p = sides h in
    let from = c.position + 1 in
    let q = ap is_equation p.relation ∙ equation_code (payload (get_or ws c.position 0)) in
    rw (conjunct-word h, p.left, p.right, ← variables_flat ws v from p.left is_bound, ← variables_flat ws v p.mid p.right is_bound, lone_at_lem ws v from c.left p.mid p.left bl is_bound, lone_at_lem ws v p.mid c.right p.next p.right br is_bound, solved-lone is_bound c.left c.right, solved-lone is_bound c.right c.left, first_either (solved_by is_bound c.left c.right) (solved_by is_bound c.right c.left) c.left c.right, q) (by (eqb (payload (get_or ws c.position 0)) 0))
  where
    by : (t : Bool) → cond t (solution_binds (either_side (solved_by is_bound c.left c.right) (solved_by is_bound c.right c.left) c.left c.right)) [] ≡ solution_binds (cond t (either_side (solved_by is_bound c.left c.right) (solved_by is_bound c.right c.left) c.left c.right) none)
    by true = refl
    by false = refl

-- ── Elements, and plans ──

module _ (ws : List ℕ) (places : List Place) (t : Transition) (parts : Parts ws places t) (sound : SoundTransition places t) where
  pub binds_at_lem : (is_bound : ℕ → Bool) (s : Sort) → binds_at ws (map width places) (outline t) is_bound s ≡ newly_bound t is_bound s
  unfolding binds_at newly_bound
  binds_at_lem is_bound (match k) = rw (map_at (λ (a : Arc). a.position) t.inputs k) (by (get_elem? t.inputs k) refl)
    where
      by : (o : Option Arc) → get_elem? t.inputs k ≡ o → at_member (Option.map (λ (a : Arc). a.position) o) (match_at ws (map width places) (length t.variables) is_bound) ≡ match_binds is_bound o
      by none e = refl
      by (some a) e =
          let m = at_member_lem t.inputs k a e in
          match_at_lem ws places (length t.variables) is_bound a (Every-at (At (read_arc ws places (length t.variables)) (λ (a : Arc). a.position)) parts.inputs m) (Every-at (SoundArc places (length t.variables)) sound.inputs m).components
  binds_at_lem is_bound (solve k) = rw (map_at (λ (c : Conjunct). c.position) t.guard k) (by (get_elem? t.guard k) refl)
    where
      by : (o : Option Conjunct) → get_elem? t.guard k ≡ o → at_member (Option.map (λ (c : Conjunct). c.position) o) (solve_at ws (length t.variables) is_bound) ≡ solve_binds is_bound o
      by none e = refl
      by (some c) e =
          let m = at_member_lem t.guard k c e in
          let s = Every-at (SoundConjunct (length t.variables)) sound.guard m in
          solve_at_lem ws (length t.variables) is_bound c (Every-at (At (read_conjunct ws (length t.variables)) (λ (c : Conjunct). c.position)) parts.guard m) s.left s.right
  binds_at_lem is_bound (range n) = refl

  faults-from : (is_bound : ℕ → Bool) (bs : List ℕ) (es : List Element) → is_bound ≡ member bs → Every (At (read_element ws) (λ (e : Element). e.position)) es → fault_from ws (map width places) (outline t) t.position is_bound (map (λ (e : Element). e.position) es) ≡ plan_fault t bs es
  unfolding fault_from plan_fault
  faults-from is_bound bs [] q a = rw q
  faults-from is_bound bs (e ∷ es) q a = rw (a.0.reads, q, binds_at_lem (member bs) e.sort) (by (newly_bound t (member bs) e.sort) (λ ns. faults-from (λ k. member ns k || member bs k) (ns ++ bs) es (fun_ext (λ k. sym (member_append ns bs k))) a.1))
    where
      by : (ns : List ℕ) → ((ns : List ℕ) → fault_from ws (map width places) (outline t) t.position (λ k. member ns k || member bs k) (map (λ (e : Element). e.position) es) ≡ plan_fault t (ns ++ bs) es) → fit_or ns e.position (λ ns. fault_from ws (map width places) (outline t) t.position (λ k. member ns k || member bs k) (map (λ (e : Element). e.position) es)) ≡ fit_or ns e.position (λ ns. plan_fault t (ns ++ bs) es)
      by [] f = refl
      by (n ∷ ns) f = f (n ∷ ns)

  -- the fault of a transition's plan, told from its words
  pub fault_at : fault_from ws (map width places) (outline t) t.position (λ k. false) (outline t).plan ≡ plan_fault t [] t.plan
  unfolding member
  fault_at = faults-from (λ k. false) [] t.plan refl parts.plan

-- ── A net ──

-- the first fault of a net's plans, told from its words
pub net-fault : (ws : List ℕ) (places : List Place) (ts : List Transition) → Every (At (read_transition ws places) (λ (t : Transition). t.position)) ts → Every (SoundTransition places) ts → fault_among ws (map width places) (map (λ (t : Transition). t.position) ts) ≡ plans_fault ts
unfolding fault_among plans_fault
net-fault ws places [] a s = refl
net-fault ws places (t ∷ ts) a s =
    let r : skim_transition ws (map width places) t.position ≡ read (outline t) a.0.next = sym (skim_transition_lem ws places t.position) ∙ ap (changed outline) a.0.reads in
    rw (r, fault_at ws places t (transition-parts ws places t.position t a.0.next a.0.reads) s.0, net-fault ws places ts a.1 s.1)
