-- In an accepted net and marking, what an arrival tries from positions is what semantics tries. The idea: each arc, conjunct and range of the
-- transition stands at its position; so a match goes through the colours of its place (Colours), held against the first words of its
-- components (Heads), a solve takes the side that semantics takes (Solving), and a range counts its values up (Ranging).
use mathlib.Core.Path.{◌≡◌, sym, ap, ◌∙◌, subst, fun_ext}
use mathlib.Core.Logic.{◌⊎◌, inl, inr}
use mathlib.Core.Bool.{true, false}
use mathlib.Core.List.{List, ◌∷◌, map, map-map}
use mathlib.Core.Option.{Option, some, bind}
use Prim.Native.Nat.{ℕ, suc, ◌+◌, ◌≤◌, ◌<◌}
use native.Mathlib.Omega.{arith}
use borrow.Author.Tests.{ltb-true, ltb-false}
use lib.Dec.{ltb}
use lib.IntN.{ℤ, pos}
use lib.ListN.{length, get_or, get_elem?, set, take, length-map, length-replicate}
use Rattle.semantics.specs.Expression.{Expression, constant, house_table}
use Rattle.semantics.specs.Reading.{read}
use Rattle.semantics.specs.Net.{Place, Arc, Conjunct, ranges_at}
use Rattle.semantics.specs.ReadNet.{read_arc, read_conjunct}
use Rattle.semantics.specs.Order.{values_of_range}
use Rattle.semantics.specs.Plan.{newly_bound}
use Rattle.semantics.specs.Tries.{Partial, is_bound_in, colours_on, matched, tries}
use Rattle.semantics.specs.Calls.{Situation}
use Rattle.semantics.proofs.Tests.{either, Every-at}
use Rattle.semantics.proofs.Members.{at_length, length_at, at_member_lem}
use Rattle.semantics.proofs.Accepted.{Valued, SoundArc, SoundTransition, transition_sound}
use Rattle.semantics.proofs.Fitness.{FitMatch, fit-match, FitSolve, fit-solve, FitRange, fit-range}
use Rattle.word.specs.Fields.{range_word}
use Rattle.net.specs.Places.{ranges_from, places_at}
use Rattle.expression.proofs.Spelled.{HeadWord, head_of_tree}
use Rattle.expression.proofs.Laws.{first_word}
use Rattle.net.proofs.Standing.{arc-parts}
use Rattle.net.proofs.Located.{Parts, reads_at, transition-parts}
use Rattle.net.proofs.Placed.{variables-placed}
use Rattle.elements.specs.declared.element.Element.{Element}
use Rattle.elements.specs.declared.element.Sort.{Sort}
use Rattle.elements.specs.declared.element.Sort.TheVariants.{Match, Solve, Range as InRange}
use Rattle.elements.specs.Bound.{sorted}
use Rattle.counts.specs.Counts.{colours_at}
use Rattle.counts.proofs.Ranked.{colours_length}
use Rattle.arrivals.specs.declared.step.Step.{Step}
use Rattle.matches.specs.Met.{matched_by}
use Rattle.net.specs.Standing.{HasConjunct}
use Rattle.solving.specs.Solve.{solved_at}
use Rattle.tries.specs.Range.{value_at, up_from}
use Rattle.arrivals.specs.Step.{IsTarget, Aims, Aimed, ReadyBy, Ready, tries_of, tries_by, Told, IsArrival}
use Rattle.arrivals.specs.World.{World}
use Rattle.arrivals.proofs.Attempting.{up-length}
use Rattle.tries.proofs.Binding.{range_at}
use Rattle.tries.proofs.Ranging.{range-values}
use Rattle.solving.proofs.Solving.{side_is}
use Rattle.arrivals.proofs.Heads.{heads_match}
use Rattle.arrivals.proofs.Colours.{place_inside, place_colours}

-- ── The number of tries ──

-- whatever the words
pub tries-length : (ws : List ℕ) (ranges v : ℕ) (ms : List ℕ) (r : Step) (parts : List ℕ) (p : Partial) → length (tries_by ws ranges v ms r parts p) ≡ r.count
tries-length ws ranges v ms r parts p = by r.element.sort
  where
    by : (k : Sort) → length (tries_of ws ranges v ms r parts p k) ≡ r.count
    by (Match k) = length-map (colours_at ms r.width r.count r.from) (λ c. matched_by (ranges_from ws v ranges) (take r.width parts) c p) ∙ colours_length ms r.width r.count r.from
    by (Solve k) = length-replicate r.count (solved_at ws (ranges_from ws v ranges) v p r.from)
    by (InRange n) = length-map (up_from 0 r.count) (λ i. some (set p n (some (value_at (get_or ws (ranges + n) 0) i)))) ∙ up-length 0 r.count

-- ── Positions ──

module _ {ws ps : List ℕ} {position v : ℕ} {inputs conjuncts elements ms begins : List ℕ} {s : Situation} (w : World ws ps position v inputs conjuncts elements ms begins s) where
  pieces : Parts ws s.net.places s.transition
  pieces = transition-parts ws s.net.places position s.transition w.after w.there

  pub sound : SoundTransition s.net.places s.transition
  sound = transition_sound ws s.net.places position s.transition w.after w.there

  ranges-here : ranges_from ws v (position + 1) ≡ s.transition.variables
  ranges-here = ap (λ (n : ℕ). ranges_from ws n (position + 1)) w.many ∙ sym (variables-placed ws s.net.places position s.transition w.after w.there)

  -- an input arc
  module _ (k : ℕ) (a : Arc) (e : get_elem? s.transition.inputs k ≡ some a) where
    pub arc-inside : k < length inputs
    arc-inside = rw (w.arcs, length-map s.transition.inputs (λ (a : Arc). a.position)) (at_length s.transition.inputs k a e)

    pub arc-here : (next : ℕ) × (read_arc ws (places_at ws ps) v (get_or inputs k 0) ≡ read a next)
    arc-here =
        let h = reads_at (λ (a : Arc). a.position) s.transition.inputs inputs w.arcs k a e (read_arc ws s.net.places (length s.transition.variables)) pieces.inputs in
        (h.0, ap (λ (places : List Place). read_arc ws places v (get_or inputs k 0)) (sym w.placed) ∙ ap (λ (n : ℕ). read_arc ws s.net.places n (get_or inputs k 0)) w.many ∙ h.1)

    pub arc_sound : SoundArc s.net.places (length s.transition.variables) a
    arc_sound = Every-at (SoundArc s.net.places (length s.transition.variables)) sound.inputs (at_member_lem s.transition.inputs k a e)

    -- the entries of its place stand in the marking
    entries-inside : (get_or begins a.place 0 ≤ get_or begins (a.place + 1) 0) × (get_or begins (a.place + 1) 0 ≤ length ms)
    entries-inside = place_inside s.net ms w.entries w.end w.marked begins w.begun a.place arc_sound.there

  -- a conjunct
  module _ (k : ℕ) (c : Conjunct) (e : get_elem? s.transition.guard k ≡ some c) where
    conjunct-inside : k < length conjuncts
    conjunct-inside = rw (w.guards, length-map s.transition.guard (λ (c : Conjunct). c.position)) (at_length s.transition.guard k c e)

    conjunct-here : (next : ℕ) × (read_conjunct ws v (get_or conjuncts k 0) ≡ read c next)
    conjunct-here =
        let h = reads_at (λ (c : Conjunct). c.position) s.transition.guard conjuncts w.guards k c e (read_conjunct ws (length s.transition.variables)) pieces.guard in
        (h.0, ap (λ (n : ℕ). read_conjunct ws n (get_or conjuncts k 0)) w.many ∙ h.1)

  -- ── What an element aims at ──

  -- an arc of a match that fits: its coefficient is one CONSTANT, and its place's entries stand in the marking
  target : (k : ℕ) (a : Arc) → get_elem? s.transition.inputs k ≡ some a → (n : ℕ) → a.coefficient ≡ constant (pos (suc n)) → IsTarget ws ps v ms begins (get_or inputs k 0)
  target k a e n c =
      let h = arc-here k a e in
      let r = arc-parts ws (places_at ws ps) v (get_or inputs k 0) h.1 in
      let i = entries-inside k a e in
      let f = subst (λ (x : Expression). HeadWord (get_or ws (get_or inputs k 0 + 1) 0) (head_of_tree x)) c (first_word ws v (get_or inputs k 0 + 1) r.coefficient) in
      record { stands = record { arc = a; next = h.0; reads = h.1 }; short = f.0; up = rw (← r.place) i.0; inside = rw (← r.place) i.1 }

  pub aims : (e : Element) (p : Partial) (n : ℕ) (ns : List ℕ) → newly_bound s.transition (is_bound_in p) (sorted e.sort) ≡ n ∷ ns → Aims ws ps v inputs ms begins e
  aims e p n ns h = record { target = λ k d l. let f = fit-match s.transition (is_bound_in p) k n ns (rw d at h) in target k f.arc f.named f.amount f.takes }

  -- ── An arrival ──

  module _ {e : Element} {b parts known : List ℕ} {r : Step} (a : IsArrival ws ps position v inputs conjuncts ms begins e b parts known r) where
    -- a conjunct that is tried stands at its position
    ready_by : (k : Sort) → Told ws ps position v inputs conjuncts ms begins e parts r k → ReadyBy ws v r k
    ready_by (Match k) t = tt
    ready_by (Solve k) t = λ h. by h (either (ltb k (length conjuncts)))
      where
        by : 0 < r.count → (ltb k (length conjuncts) ≡ true) ⊎ (ltb k (length conjuncts) ≡ false) → HasConjunct ws v r.from
        by h (inl q) =
            let l = ltb-true k (length conjuncts) q in
            let m = length_at s.transition.guard k (rw (w.guards, length-map s.transition.guard (λ (c : Conjunct). c.position)) at l) in
            let c = conjunct-here k m.0 m.1 in
            record { conjunct = m.0; next = c.0; reads = rw (t.0 l).1 c.1 }
        by h (inr q) = let z = t.1 (ltb-false k (length conjuncts) q) in absurd (omega arith)
    ready_by (InRange n) t = tt

    -- what a match knows of its arc
    module _ (k : ℕ) (x : Arc) (named : get_elem? s.transition.inputs k ≡ some x) where
      pub match_aim : Told ws ps position v inputs conjuncts ms begins e parts r (Match k) → Aimed begins x parts r
      match_aim t =
          let i = entries-inside k x named in
          let h = arc-here k x named in
          (t.0 (arc-inside k x named)).aimed x h.0 h.1 i.0 i.1

    module _ (p : Partial) (n : ℕ) (ns : List ℕ) where
      tries-match : (k : ℕ) → Told ws ps position v inputs conjuncts ms begins e parts r (Match k) → FitMatch s.transition (is_bound_in p) k (n ∷ ns) → tries_of ws (position + 1) v ms r parts p (Match k) ≡ tries house_table s.net s.transition s.counts (sorted (Match k)) p
      unfolding tries
      tries-match k t f = rw f.named (ap (λ (l : List (List ℤ)). map (λ c. matched_by (ranges_from ws v (position + 1)) (take r.width parts) c p) l) same ∙ ap (λ (g : List ℤ → Option Partial). map g (colours_on s.net s.counts f.arc.place)) (fun_ext held))
        where
          aim : Aimed begins f.arc parts r
          aim = match_aim k f.arc f.named t

          width : r.width ≡ length (ranges_at s.net.places f.arc.place)
          width = aim.wide ∙ (arc_sound k f.arc f.named).width

          same : colours_at ms r.width r.count r.from ≡ colours_on s.net s.counts f.arc.place
          same = rw (aim.many, aim.from, w.counted) (place_colours s.net ms w.entries w.end w.marked begins w.begun f.arc.place (arc_sound k f.arc f.named).there r.width width)

          held : (c : List ℤ) → matched_by (ranges_from ws v (position + 1)) (take r.width parts) c p ≡ matched s.transition.variables f.arc.components c p
          held c = rw ranges-here (heads_match s.transition.variables (take r.width parts) f.arc.components aim.begin c p)

      tries-solve : (k : ℕ) → Told ws ps position v inputs conjuncts ms begins e parts r (Solve k) → FitSolve s.transition (is_bound_in p) k (n ∷ ns) → tries_of ws (position + 1) v ms r parts p (Solve k) ≡ tries house_table s.net s.transition s.counts (sorted (Solve k)) p
      unfolding tries bind
      tries-solve k t f =
          let h = conjunct-here k f.conjunct f.named in
          let g = t.0 (conjunct-inside k f.conjunct f.named) in
          rw (f.named, f.found, g.0, g.1, h.1, ranges-here, side_is (is_bound_in p) f.conjunct f.answer f.found)

      tries-range : (k : ℕ) → Told ws ps position v inputs conjuncts ms begins e parts r (InRange k) → FitRange s.transition (is_bound_in p) k (n ∷ ns) → tries_of ws (position + 1) v ms r parts p (InRange k) ≡ tries house_table s.net s.transition s.counts (sorted (InRange k)) p
      unfolding tries
      tries-range k t f =
          let x = get_or ws (position + 1 + k) 0 in
          let l : k < v = rw w.many f.there in
          let g : get_elem? s.transition.variables k ≡ some (range_word x) = rw ranges-here at (range_at ws v (position + 1) k l) in
          let o = (Every-at Valued sound.valued (at_member_lem s.transition.variables k (range_word x) g)).ordered in
          rw (g, (t.0 l).counts o)
          (sym (map-map (λ z. some (set p k (some z))) (value_at x) (up_from 0 (length (values_of_range (range_word x))))) ∙ ap (map (λ z. some (set p k (some z)))) (range-values x o))

      tries_by_lem : (k : Sort) → Told ws ps position v inputs conjuncts ms begins e parts r k → newly_bound s.transition (is_bound_in p) (sorted k) ≡ n ∷ ns → tries_of ws (position + 1) v ms r parts p k ≡ tries house_table s.net s.transition s.counts (sorted k) p
      tries_by_lem (Match k) t h = tries-match k t (fit-match s.transition (is_bound_in p) k n ns h)
      tries_by_lem (Solve k) t h = tries-solve k t (fit-solve s.transition (is_bound_in p) k n ns h)
      tries_by_lem (InRange k) t h = tries-range k t (fit-range s.transition (is_bound_in p) k n ns h)

    pub arrival_ready : Ready ws v r
    arrival_ready = subst (λ (d : Element). ReadyBy ws v r d.sort) (sym a.element) (ready_by e.sort a.told)

    pub arrival_tries : (p : Partial) (n : ℕ) (ns : List ℕ) → newly_bound s.transition (is_bound_in p) (sorted e.sort) ≡ n ∷ ns → tries_by ws (position + 1) v ms r parts p ≡ tries house_table s.net s.transition s.counts (sorted e.sort) p
    arrival_tries p n ns h = ap (λ (d : Element). tries_of ws (position + 1) v ms r parts p d.sort) a.element ∙ tries_by_lem p n ns e.sort a.told h
