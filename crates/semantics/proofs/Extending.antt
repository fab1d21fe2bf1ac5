-- What is known stays known as a plan goes on: an expression or an arc that has a value at a partial binding has the same value after every try that goes
-- on from it, and so at every leaf below.
-- The idea: one environment extends another where it says all that the other says. Values are made from what is said alone, so they stay; and an element
-- of a plan without fault sets variables that are unbound alone, so a try that goes on extends what was bound.
-- Rests on Enabling, Partial and Leaves.
use mathlib.Core.Path.{◌≡◌, refl, sym, ap, ◌∙◌}
use mathlib.Core.List.{List, [], ◌∷◌, Memᴰ}
use mathlib.Core.Option.{none, some, bind, bind-eq-some_iff}
use Prim.Native.Nat.{ℕ}
use lib.IntN.{ℤ}
use lib.ListN.{set}
use lib.Seq.{get_or-set_other}
use Rattle.semantics.specs.Word.{Range}
use Rattle.semantics.specs.Expression.{Environment, Expression, constant, variable, binary, load, value, values_of}
use Rattle.semantics.specs.Net.{Arc, Element, Transition, Net}
use Rattle.semantics.specs.Marking.{Counts}
use Rattle.semantics.specs.Enabling.{Flow, flow}
use Rattle.semantics.specs.Tries.{Partial, partly, is_bound_in, matched, tries}
use Rattle.semantics.proofs.Members.{none-some}
use Rattle.semantics.proofs.Enabling.{flow-moves, moves-flow}
use Rattle.semantics.proofs.Partial.{absent_none}
use Rattle.semantics.proofs.Leaves.{matched_keeps, Goes, matching, setting, tries_go, Sound, sound_fits}

-- all that one environment says another says too
abbrev pub Extends : Environment → Environment → Type 0
Extends env env' = (n : ℕ) (z : ℤ) → env n ≡ some z → env' n ≡ some z

-- ── Values ──

-- an expression that has a value keeps it
pub value_extends : (table : List ℕ) {env env' : Environment} → Extends env env' → (e : Expression) {z : ℤ} → value table env e ≡ some z → value table env' e ≡ some z
unfolding value bind bind-eq-some_iff
value_extends table x (constant k) h = h
value_extends table x (variable n) {z} h = x n z h
value_extends table {env} x (binary o a b) h =
    let f = (bind-eq-some_iff (value table env a) _).0 h in
    let g = (bind-eq-some_iff (value table env b) _).0 f.2 in
    rw (value_extends table x a f.1, value_extends table x b g.1) g.2
value_extends table {env} x (load a) h = let f = (bind-eq-some_iff (value table env a) _).0 h in rw (value_extends table x a f.1) f.2

pub values_extends : (table : List ℕ) {env env' : Environment} → Extends env env' → (es : List Expression) {zs : List ℤ} → values_of table env es ≡ some zs → values_of table env' es ≡ some zs
unfolding values_of bind bind-eq-some_iff
values_extends table x [] h = h
values_extends table {env} x (e ∷ es) h =
    let f = (bind-eq-some_iff (value table env e) _).0 h in
    let g = (bind-eq-some_iff (values_of table env es) _).0 f.2 in
    rw (value_extends table x e f.1, values_extends table x es g.1) g.2

-- and so does the flow of an arc
pub flow_extends : (table : List ℕ) {env env' : Environment} → Extends env env' → (a : Arc) {f : Flow} → flow table env a ≡ some f → flow table env' a ≡ some f
flow_extends table {env} {env'} x a {f} h =
    let m = flow-moves table env a f h in
    moves-flow table env' a f (record { place = m.place; coefficient = value_extends table x a.coefficient m.coefficient; components = values_extends table x a.components m.components })

-- ── Tries ──

-- an unbound variable that is set takes nothing away
set_extends : (p : Partial) (n : ℕ) (z : ℤ) → partly p n ≡ none → Extends (partly p) (partly (set p n (some z)))
set_extends p n z u k y h = get_or-set_other p n k (some z) none (λ d. none-some (sym (ap (partly p) d ∙ u) ∙ h)) ∙ h

-- a match sets unbound variables alone
pub matched_extends : (ranges : List Range) (es : List Expression) (c : List ℤ) (p q : Partial) → matched ranges es c p ≡ some q → Extends (partly p) (partly q)
matched_extends ranges es c p q h =
    matched_keeps ranges (λ r. Extends (partly p) (partly r)) (λ r r' n z u s x k y e. ap (λ (o : Partial). partly o k) s.set_to ∙ set_extends r n z u k y (x k y e)) es c p q (λ k y e. e) h

-- a try that goes on keeps what was bound
pub tries_extend : (table : List ℕ) (net : Net) (m : Counts) {t : Transition} {e : Element} {es : List Element} {p : Partial} → Sound t (e ∷ es) p → (q : Partial) → Memᴰ (some q) (tries table net t m e.sort p) → Extends (partly p) (partly q)
tries_extend table net m {t} {e} {es} {p} s q j = let f = sound_fits s in by (tries_go table net t m e.sort p q (is_bound_in p) f.0 f.1.0 refl f.1.1 j)
  where
    by : {ns : List ℕ} → Goes t p q ns (is_bound_in p) → Extends (partly p) (partly q)
    by (matching es c b h) = matched_extends t.variables es c p q h
    by (setting n z b u s) = λ k y h. ap (λ (o : Partial). partly o k) s.set_to ∙ set_extends p n z (absent_none (partly p n) u) k y h
