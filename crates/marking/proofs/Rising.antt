-- The rules of reading a marking: entry by entry, what is still ahead is what was ahead at first; the entries of each place up to that of
-- the last entry begin where they were found to begin.
use mathlib.Core.Path.{◌≡◌, refl, sym, ap, ◌∙◌, subst}
use Prim.Native.Nat.{ℕ, zero, suc, ◌+◌, ◌-◌, ◌≤◌, ◌<◌, ◌%◌}
use mathlib.Core.Logic.{◌⊎◌, inl, inr}
use mathlib.Core.Bool.{Bool, true, false, cond, and-false}
use mathlib.Core.List.{List, [], ◌∷◌, ◌++◌, append-nil, append_assoc}
use borrow.Author.Rules.{rules}
use borrow.Author.Tests.{leb-true, leb-false, lt-leb, le-leb, lt-ltb, le-ltb, ltb-true, ltb-false, ne_eqb, eq-eqb, eqb-true, eqb-false}
use native.Mathlib.Omega.{arith}
use lib.Dec.{leb, ltb, eqb}
use lib.IntN.{ℤ, pos}
use lib.ListN.{length, get_or, set}
use lib.Seq.{get_or-set_same, get_or-set_other}
use Rattle.semantics.specs.Order.{same_integer, before}
use Rattle.semantics.specs.Lists.{Every}
use Rattle.semantics.specs.Refusal.{bad_marking}
use Rattle.semantics.specs.Word.{kind, payload, bits}
use Rattle.semantics.specs.Reading.{Reading, read, refused, then, numbered, word, values_in}
use Rattle.semantics.specs.Net.{Place, ranges_at}
use Rattle.semantics.specs.Marking.{Entry, key, read_entry, rising, read_entries}
use Rattle.semantics.proofs.Spans.{Span, then-read, read_same, refused-read, word_read, drop-first}
use Rattle.semantics.proofs.Tests.{false_true, either, Every-at, Every-of}
use Rattle.semantics.proofs.Members.{every_snoc}
use Rattle.semantics.specs.declared.refusal.Refusal.{Refusal}
use Rattle.semantics.specs.declared.refusal.Refusal.TheVariants.{BadMarking}
use Rattle.semantics.specs.Answer.{refusing}
use Rattle.std.specs.Prelude.{Ok, Err}
use Rattle.expression.specs.Skip.{forget}
use Rattle.net.specs.Skim.{changed}
use Rattle.net.proofs.Loops.{changed-same}
use Rattle.colours.specs.Values.{values_at}
use Rattle.semantics.proofs.ReadEntries.{token_in, token_parts}
use Rattle.marking.specs.Marked.{entry_place, marking_read, position_of, begin_of, Begun, rises_after, IsMarking}
use Rattle.colours.proofs.Comparing.{values_length}
use Rattle.marking.proofs.Entries.{Values, values-stand}

-- ── Where places begin ──

pub begun-none : (l : List ℕ) (p a : ℕ) → Begun l p p a l
begun-none l p a = record { new = λ q i j. absurd (omega arith); old = λ q i. refl }

pub begun_turn : {l r : List ℕ} {from p a : ℕ} → Begun l from p a r → p < length r → from ≤ p → Begun l from (p + 1) a (set r p a)
begun_turn {l} {r} {from} {p} {a} b h k = record {
  new = λ q i j. new q i j (either (eqb q p));
  old = λ q j. get_or-set_other r p q a 0 (λ e. omega arith) ∙ b.old q j;
}
  where
    new : (q : ℕ) → from ≤ q → q < p + 1 → (eqb q p ≡ true) ⊎ (eqb q p ≡ false) → get_or (set r p a) q 0 ≡ a
    new q i j (inl t) = rw (eqb-true q p t) (get_or-set_same r p a 0 h)
    new q i j (inr t) =
        let d = eqb-false q p t in
        get_or-set_other r p q a 0 d ∙ b.new q i (omega arith)

pub begun-end : {l r : List ℕ} {from p to a : ℕ} → Begun l from p a r → to ≤ p → Begun l from to a r
begun-end b h = record { new = λ q i j. b.new q i (omega arith); old = b.old }

-- ── The order of an entry and the one before it ──

module _ (ws : List ℕ) (last place at p n : ℕ) where
  pub rises-first : at ≡ 0 → true ≡ rises_after ws last place at p n
  rises-first e = rw e

  module _ (f : at ≡ 0 → ⊥) where
    pub rises-place : place < p → true ≡ rises_after ws last place at p n
    unfolding before
    rises-place h = rw (ne_eqb at 0 f, lt-ltb place p h)

    pub rises-not : p < place → false ≡ rises_after ws last place at p n
    unfolding before same_integer
    rises-not h =
        let d : place ≡ p → ⊥ = λ e. omega arith in
        rw (ne_eqb at 0 f, le-ltb place p (omega arith), ne_eqb place p d)

    pub rises-colour : {t : Bool} → p ≤ place → place ≤ p → t ≡ before (values_at ws n (last + 1)) (values_at ws n (at + 1)) → t ≡ rises_after ws last place at p n
    unfolding before same_integer
    rises-colour h k e =
        let s : place ≡ p = omega arith in
        rw (ne_eqb at 0 f, le-ltb place p (omega arith), eq-eqb place p s) e

pub ruleset ordering = (rules, rises-first, rises-place, rises-not, rises-colour)

-- ── Where entries stand ──

-- the words of entries
unfoldable pub size_of : List Entry → ℕ
size_of [] = 0
size_of (e ∷ es) = 1 + length e.colour + size_of es

size_snoc : (es : List Entry) (e : Entry) → size_of (es ++ (e ∷ [])) ≡ size_of es + (1 + length e.colour)
unfolding size_of
size_snoc [] e = omega arith
size_snoc (d ∷ es) e = let h = size_snoc es e in omega arith

position_snoc : (es : List Entry) (e : Entry) (k : List ℤ) → position_of (es ++ (e ∷ [])) k ≡ position_of es k + cond (before (key e.place e.colour) k) (1 + length e.colour) 0
unfolding position_of
position_snoc [] e k = omega arith
position_snoc (d ∷ es) e k = let h = position_snoc es e k in omega arith

-- no position lies behind them
pub position-size : (es : List Entry) (k : List ℤ) → position_of es k ≤ size_of es
unfolding position_of size_of
position-size [] k = omega arith
position-size (e ∷ es) k = by (position-size es k) (either (before (key e.place e.colour) k))
  where
    by : position_of es k ≤ size_of es → (before (key e.place e.colour) k ≡ true) ⊎ (before (key e.place e.colour) k ≡ false) → cond (before (key e.place e.colour) k) (1 + length e.colour) 0 + position_of es k ≤ 1 + length e.colour + size_of es
    by h (inl t) = rw t (omega arith)
    by h (inr t) = rw t (omega arith)

-- entries of lesser places stand before a place's first, the others do not
place-before : (e : Entry) (p : ℕ) → e.place < p → before (key e.place e.colour) (pos p ∷ []) ≡ true
unfolding before
place-before e p h = rw (lt-ltb e.place p h)

pub before_nothing : (xs : List ℤ) → before xs [] ≡ false
unfolding before
before_nothing [] = refl
before_nothing (x ∷ xs) = refl

nothing_before : (y : ℤ) (ys : List ℤ) → before [] (y ∷ ys) ≡ true
unfolding before
nothing_before y ys = refl

pub place_after : (e : Entry) (p : ℕ) → p ≤ e.place → before (key e.place e.colour) (pos p ∷ []) ≡ false
unfolding before
place_after e p h = rw (le-ltb e.place p h, before_nothing e.colour) (and-false (same_integer (pos e.place) (pos p)))

-- whether an entry stands before a place's first is told by the places alone
pub place_order : (e : Entry) (p : ℕ) → before (key e.place e.colour) (pos p ∷ []) ≡ ltb e.place p
place_order e p = by (either (ltb e.place p))
  where
    by : (ltb e.place p ≡ true) ⊎ (ltb e.place p ≡ false) → before (key e.place e.colour) (pos p ∷ []) ≡ ltb e.place p
    by (inl t) = place-before e p (ltb-true e.place p t) ∙ sym t
    by (inr t) = place_after e p (ltb-false e.place p t) ∙ sym t

-- all entries stand before the first of a greater place
begin-size : (es : List Entry) (place p : ℕ) → Every (λ (e : Entry). e.place ≤ place) es → place < p → begin_of es p ≡ size_of es
unfolding position_of size_of
begin-size [] place p l h = refl
begin-size (e ∷ es) place p l h = let i = l.0 in rw (place-before e p (omega arith), begin-size es place p l.1 h)

-- ── One entry more ──

-- an entry that was read: its values stand in the words
pub record EntryStands (ps : List Place) (ws : List ℕ) (at : ℕ) (e : Entry) (next : ℕ) : Type 0 where
  pub placed : e.place < length ps
  pub count : e.count ≡ get_or ws at 0 % 16384
  pub colour : e.colour ≡ values_at ws (length (ranges_at ps e.place)) (at + 1)
  pub wide : length e.colour ≡ length (ranges_at ps e.place)
  pub after : next ≡ at + 1 + length (ranges_at ps e.place)
  pub inside : next ≤ length ws

pub entry_stands : (ps : List Place) (ws : List ℕ) (at : ℕ) (e : Entry) (next : ℕ) → at < length ws → read_entry ps ws at ≡ read e next → EntryStands ps ws at e next
unfolding read_entry
entry_stands ps ws at e next h r =
    then-read (word ws 0xB (token_in (length ps)) at) (λ w mid. then (values_in ws (ranges_at ps (bits 14 21 w)) mid) (λ c last. read (record { place = bits 14 21 w; count = bits 0 13 w; colour = c }) last)) e next r λ w mid p q.
    then-read (values_in ws (ranges_at ps (bits 14 21 w)) mid) (λ c last. read (record { place = bits 14 21 w; count = bits 0 13 w; colour = c }) last) e next q λ c last p' q'.
    by w mid c last (word_read ws 0xB (token_in (length ps)) at w mid p) (values-stand ws (ranges_at ps (bits 14 21 w)) mid c last p') (read_same (record { place = bits 14 21 w; count = bits 0 13 w; colour = c }) e last next q')
  where
    by : (w mid : ℕ) (c : List ℤ) (last : ℕ) → (v : ℕ) × Span ws at (v ∷ []) mid × (kind v ≡ 0xB) × (payload v ≡ w) × (token_in (length ps) w ≡ true) → Values ws mid (length (ranges_at ps (bits 14 21 w))) c last → (◌≡◌ {A = Entry} (record { place = bits 14 21 w; count = bits 0 13 w; colour = c }) e) × (last ≡ next) → EntryStands ps ws at e next
    by w mid c last (v, sp, k, f, o) g s =
        let a = sp.after in
        let m : mid ≡ at + 1 = omega arith in
        let i = g.inside (sp.inside (omega arith)) in
        let d = (token_parts (length ps) w o).1 in
        let t = drop-first ws at v _ sp.split in
        let z : bits 0 13 w ≡ get_or ws at 0 % 16384 = omega (arith, t.1, f) in
        subst (λ (e : Entry). EntryStands ps ws at e next) s.0 (subst (λ (next : ℕ). EntryStands ps ws at (record { place = bits 14 21 w; count = bits 0 13 w; colour = c }) next) s.1 (record {
          placed = d;
          count = z;
          colour = g.same ∙ rw m;
          wide = ap length g.same ∙ values_length ws (length (ranges_at ps (bits 14 21 w))) mid;
          after = g.after ∙ rw m;
          inside = i;
        }))

-- the order of an entry on another place does not depend on colours
key_apart : (a b : ℕ) (xs xs' ys : List ℤ) → (a ≡ b → ⊥) → before (key a xs) (key b ys) ≡ before (key a xs') (key b ys)
unfolding before same_integer
key_apart a b xs xs' ys d = rw (ne_eqb a b d)

-- an entry stands after the one before it: its place is no lesser
pub key-rises : (a b : ℕ) (xs ys : List ℤ) → before (key a xs) (key b ys) ≡ true → a ≤ b
unfolding before same_integer
key-rises a b xs ys e = by (either (ltb a b)) (either (eqb a b))
  where
    by : (ltb a b ≡ true) ⊎ (ltb a b ≡ false) → (eqb a b ≡ true) ⊎ (eqb a b ≡ false) → a ≤ b
    by (inl t) u = let h = ltb-true a b t in omega arith
    by (inr t) (inl u) = let h = eqb-true a b u in omega arith
    by (inr t) (inr u) = false_true (rw (t, u) at e)

-- ── The loop ──

snoc_read : (xs : List Entry) (e : Entry) (x : Reading (List Entry)) → changed (λ es. (xs ++ (e ∷ [])) ++ es) x ≡ changed (λ es. xs ++ es) (then x (λ es next. read (e ∷ es) next))
snoc_read xs e (read es next) = ap (λ (l : List Entry). read l next) (append_assoc xs (e ∷ []) es)
snoc_read xs e (refused n p) = refl

-- some entries were read, up to a position; `after` is the key of the last one, which stands at `last` on `place`
pub record SoFar (ps : List Place) (ws begins : List ℕ) (last place at : ℕ) : Type 0 where
  pub entries : List Entry
  pub rounds : ℕ
  pub after : List ℤ
  pub enough : length ws ≤ rounds + at
  pub inside : at ≤ length ws
  pub back : last ≤ at
  pub same : changed (λ es. entries ++ es) (read_entries rounds ps ws after at) ≡ read_entries (length ws) ps ws [] 0
  pub size : at ≡ size_of entries
  pub first : at ≡ 0 → (after ≡ []) × (place ≡ 0)
  pub later : (at ≡ 0 → ⊥) → after ≡ key place (values_at ws (length (ranges_at ps place)) (last + 1))
  pub low : Every (λ (e : Entry). e.place ≤ place) entries
  pub begun : (p : ℕ) → p ≤ place → get_or begins p 0 ≡ begin_of entries p
  pub few : place < 64
  pub long : length begins ≡ 65

pub so_far_start : (ps : List Place) (ws begins : List ℕ) → length begins ≡ 65 → get_or begins 0 0 ≡ 0 → SoFar ps ws begins 0 0 0
unfolding size_of position_of
so_far_start ps ws begins l z = record {
  entries = [];
  rounds = length ws;
  after = [];
  enough = omega arith;
  inside = omega arith;
  back = omega arith;
  same = changed-same (read_entries (length ws) ps ws [] 0);
  size = refl;
  first = λ e. (refl, refl);
  later = λ f. absurd (f refl);
  low = tt;
  begun = λ p h. let e : p ≡ 0 = omega arith in rw e z;
  few = omega arith;
  long = l;
}

module _ {ps : List Place} {ws begins : List ℕ} {last place at : ℕ} (a : SoFar ps ws begins last place at) where
  -- the words are at their end
  pub so_far_end : length ws ≤ at → marking_read ps ws ≡ read a.entries at
  unfolding marking_read read_entries
  so_far_end h = ap (numbered bad_marking) (sym a.same ∙ ap (changed (λ es. a.entries ++ es)) (by a.rounds) ∙ ap (λ (es : List Entry). read es at) (append-nil a.entries))
    where
      by : (n : ℕ) → read_entries n ps ws a.after at ≡ read [] at
      by zero = rw (le-leb (length ws) at h)
      by (suc n) = rw (le-leb (length ws) at h)

  module _ (h : at < length ws) where
    one_round : (n : ℕ) × (a.rounds ≡ suc n)
    one_round = by a.rounds refl
      where
        by : (n : ℕ) → a.rounds ≡ n → (m : ℕ) × (n ≡ suc m)
        by zero e = let k = a.enough in absurd (omega arith)
        by (suc n) e = (n, refl)

    -- one round: an entry, its order, and the rest
    turn : (n : ℕ) → a.rounds ≡ suc n → read_entries (length ws) ps ws [] 0 ≡ changed (λ es. a.entries ++ es) (then (read_entry ps ws at) (λ e next. then (rising a.after e at next) (λ e next. then (read_entries n ps ws (key e.place e.colour) next) (λ es next. read (e ∷ es) next))))
    unfolding read_entries
    turn n e = sym a.same ∙ ap (λ (k : ℕ). changed (λ es. a.entries ++ es) (read_entries k ps ws a.after at)) e ∙ rw (lt-leb (length ws) at h)

    pub so_far_refused : {m q : ℕ} → read_entry ps ws at ≡ refused m q → marking_read ps ws ≡ refused bad_marking q
    unfolding marking_read
    so_far_refused e = let (n, r) = one_round in rw (turn n r, e)

    module _ (e : Entry) (next : ℕ) (r : read_entry ps ws at ≡ read e next) where
      stands : EntryStands ps ws at e next
      stands = entry_stands ps ws at e next h r

      -- the components of the entry, from its end
      components : next - at - 1 ≡ length (ranges_at ps e.place)
      components = let i = stands.after in omega arith

      -- the test of the code is that of the definition
      pub in_order : rises_after ws last place at e.place (next - at - 1) ≡ before a.after (key e.place e.colour)
      in_order = rw components (by (either (eqb at 0)))
        where
          w : ℕ
          w = length (ranges_at ps e.place)

          same_width : (eqb place e.place ≡ true) ⊎ (eqb place e.place ≡ false) → before (key place (values_at ws w (last + 1))) (key e.place (values_at ws w (at + 1))) ≡ before (key place (values_at ws (length (ranges_at ps place)) (last + 1))) (key e.place (values_at ws w (at + 1)))
          same_width (inl t) = ap (λ (q : ℕ). before (key place (values_at ws (length (ranges_at ps q)) (last + 1))) (key e.place (values_at ws w (at + 1)))) (sym (eqb-true place e.place t))
          same_width (inr t) = key_apart place e.place (values_at ws w (last + 1)) (values_at ws (length (ranges_at ps place)) (last + 1)) (values_at ws w (at + 1)) (eqb-false place e.place t)

          by : (eqb at 0 ≡ true) ⊎ (eqb at 0 ≡ false) → rises_after ws last place at e.place w ≡ before a.after (key e.place e.colour)
          by (inl t) =
              let z = eqb-true at 0 t in
              rw (t, (a.first z).0) (sym (nothing_before (pos e.place) e.colour))
          by (inr t) = rw (t, a.later (eqb-false at 0 t), stands.colour) (same_width (either (eqb place e.place)))

      module _ (o : before a.after (key e.place e.colour) ≡ true) where
        pub no_lesser : place ≤ e.place
        no_lesser = by (either (eqb at 0))
          where
            by : (eqb at 0 ≡ true) ⊎ (eqb at 0 ≡ false) → place ≤ e.place
            by (inl t) = let z = (a.first (eqb-true at 0 t)).1 in omega arith
            by (inr t) = key-rises place e.place (values_at ws (length (ranges_at ps place)) (last + 1)) e.colour (rw (a.later (eqb-false at 0 t)) at o)

        pub so_far_goes : {begins' : List ℕ} → length begins' ≡ length begins → e.place < 64 → Begun begins (place + 1) (e.place + 1) at begins' → SoFar ps ws begins' at e.place next
        so_far_goes {begins'} l few b = by one_round
          where
            begun : (p : ℕ) → p ≤ e.place → (leb p place ≡ true) ⊎ (leb p place ≡ false) → get_or begins' p 0 ≡ begin_of (a.entries ++ (e ∷ [])) p
            begun p i (inl t) =
                let j = leb-true p place t in
                let f = position_snoc a.entries e (pos p ∷ []) in
                let g = rw (place_after e p i) at f in
                b.old p (omega arith) ∙ a.begun p j ∙ sym (omega arith)
            begun p i (inr t) =
                let j = leb-false p place t in
                let f = position_snoc a.entries e (pos p ∷ []) in
                let g = rw (place_after e p i) at f in
                let s = begin-size a.entries place p a.low j in
                let z = a.size in
                let n = b.new p (omega arith) (omega arith) in
                omega arith

            by : (n : ℕ) × (a.rounds ≡ suc n) → SoFar ps ws begins' at e.place next
            by (n, k) =
                let i = stands.after in
                let j = a.enough in
                let s = stands.inside in
                let z = a.size in
                let w = stands.wide in
                let m = a.long in
                record {
                  entries = a.entries ++ (e ∷ []);
                  rounds = n;
                  after = key e.place e.colour;
                  enough = omega arith;
                  inside = s;
                  back = omega arith;
                  same = snoc_read a.entries e (read_entries n ps ws (key e.place e.colour) next) ∙ sym (turn n k ∙ rw (r, o));
                  size = omega (arith, size_snoc a.entries e);
                  first = λ z. absurd (omega arith);
                  later = λ f. rw stands.colour;
                  low = every_snoc (λ (d : Entry). d.place ≤ e.place) a.entries e (Every-of (λ (d : Entry). d.place ≤ e.place) a.entries (λ d k. let h = Every-at (λ (d : Entry). d.place ≤ place) a.low k in let g = no_lesser in omega arith)) (omega arith);
                  begun = λ p i. begun p i (either (leb p place));
                  few = few;
                  long = omega arith;
                }

-- ── By the answers of the code ──

-- what the answer for an entry says, any refusal being 7
answer-read : (ps : List Place) (ws : List ℕ) (at : ℕ) {p next : ℕ} → read p next ≡ numbered bad_marking (changed entry_place (read_entry ps ws at)) → (e : Entry) × (read_entry ps ws at ≡ read e next) × (e.place ≡ p)
answer-read ps ws at {p} {next} x = by (read_entry ps ws at) refl x
  where
    by : (y : Reading Entry) → read_entry ps ws at ≡ y → read p next ≡ numbered bad_marking (changed entry_place y) → (e : Entry) × (y ≡ read e next) × (e.place ≡ p)
    by (read e end) q i = (e, cc, cc)
    by (refused n s) q i = refused-read bad_marking s p next (sym i)

answer-refused : (ps : List Place) (ws : List ℕ) (at : ℕ) (e : Refusal) → refusing e ≡ numbered bad_marking (changed entry_place (read_entry ps ws at)) → (m : ℕ) × (q : ℕ) × (read_entry ps ws at ≡ refused m q) × (refusing {A = Unit {0}} e ≡ refused bad_marking q)
answer-refused ps ws at e x = by (read_entry ps ws at) x
  where
    by : (y : Reading Entry) → refusing e ≡ numbered bad_marking (changed entry_place y) → (m : ℕ) × (q : ℕ) × (y ≡ refused m q) × (refusing {A = Unit {0}} e ≡ refused bad_marking q)
    by (read d end) i = refused-read _ _ d.place end i
    by (refused n s) i = (n, s, refl, cc)

-- a refusal, whatever was written of the places
refusal : (ps : List Place) (ws : List ℕ) (q : ℕ) (begins : List ℕ) {e : Refusal} → refusing {A = Unit {0}} e ≡ refused bad_marking q → marking_read ps ws ≡ refused bad_marking q → IsMarking ps ws (Err e) begins
refusal ps ws q begins d e = record {
  same = d ∙ sym (ap forget e);
  begins = λ es next f p h. refused-read bad_marking q es next (sym e ∙ f);
}

module _ {ps : List Place} {ws begins : List ℕ} {last place at : ℕ} (a : SoFar ps ws begins last place at) where
  pub marking_ends : {begins' : List ℕ} → length ws ≤ at → Begun begins (place + 1) 65 at begins' → IsMarking ps ws (Ok at) begins'
  marking_ends {begins'} h b = record { same = sym (ap forget (so_far_end a h)); begins = begins_at }
    where
      by : (p : ℕ) → p ≤ 64 → (leb p place ≡ true) ⊎ (leb p place ≡ false) → get_or begins' p 0 ≡ begin_of a.entries p
      by p k (inl t) =
          let j = leb-true p place t in
          b.old p (omega arith) ∙ a.begun p j
      by p k (inr t) =
          let j = leb-false p place t in
          let s = begin-size a.entries place p a.low j in
          let z = a.size in
          let n = b.new p (omega arith) (omega arith) in
          omega arith

      begins_at : (es : List Entry) (next : ℕ) → marking_read ps ws ≡ read es next → (p : ℕ) → p ≤ 64 → get_or begins' p 0 ≡ begin_of es p
      begins_at es next f p k =
          let s = read_same a.entries es at next (sym (so_far_end a h) ∙ f) in
          by p k (either (leb p place)) ∙ ap (λ (l : List Entry). begin_of l p) s.0

  module _ (h : at < length ws) where
    pub marking_refused : (e : Refusal) → refusing e ≡ numbered bad_marking (changed entry_place (read_entry ps ws at)) → IsMarking ps ws (Err e) begins
    marking_refused e x = let (m, q, y, d) = answer-refused ps ws at e x in refusal ps ws q begins d (so_far_refused a h y)

    module _ {p next : ℕ} (x : read p next ≡ numbered bad_marking (changed entry_place (read_entry ps ws at))) where
      entry_there : (e : Entry) × (read_entry ps ws at ≡ read e next) × (e.place ≡ p)
      entry_there = answer-read ps ws at x

      -- where the entry ends, and that its place is one of the net
      pub entry_ends : (at + 1 ≤ next) × (next ≤ length ws) × (p < length ps)
      entry_ends = let (e, y, z) = entry_there in let s = entry_stands ps ws at e next h y in let i = s.after in let j = s.inside in let k = s.placed in (omega arith, j, omega arith)

      ordered : (e : Entry) (y : read_entry ps ws at ≡ read e next) → e.place ≡ p → rises_after ws last place at p (next - at - 1) ≡ before a.after (key e.place e.colour)
      ordered e y z = ap (λ (q : ℕ). rises_after ws last place at q (next - at - 1)) (sym z) ∙ in_order a h e next y

      pub marking_unordered : false ≡ rises_after ws last place at p (next - at - 1) → IsMarking ps ws (Err (BadMarking at)) begins
      unfolding marking_read
      marking_unordered i =
          let (e, y, z) = entry_there in
          let f : before a.after (key e.place e.colour) ≡ false = sym (i ∙ ordered e y z) in
          let (n, k) = one_round a h in
          refusal ps ws at begins refl (rw (turn a h n k, y, f))

      pub marking_goes : {begins' : List ℕ} → true ≡ rises_after ws last place at p (next - at - 1) → length begins' ≡ length begins → p < 64 → Begun begins (place + 1) (p + 1) at begins' → SoFar ps ws begins' at p next
      marking_goes {begins'} i l few b =
          let (e, y, z) = entry_there in
          subst (λ (q : ℕ). SoFar ps ws begins' at q next) z (so_far_goes a h e next y (sym (i ∙ ordered e y z)) l (rw z few) (rw z b))
