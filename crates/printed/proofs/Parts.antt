-- A part of the text from what each function is handed: refused input has one part, and otherwise a part is the text of a transition.
-- The idea: the code makes the tests of `texts` in their order, and each return is a rule here. Rests on semantics/proofs/Cut, Menus and specs/{Texts, Part}.
use mathlib.Core.Path.{◌≡◌, refl, sym, ap, ◌∙◌, subst}
use mathlib.Core.Bool.{false}
use mathlib.Core.List.{List, [], ◌∷◌, ◌++◌}
use mathlib.Core.Option.{some}
use Prim.Native.Nat.{ℕ, zero, suc, ◌+◌, ◌-◌, ◌/◌, ◌%◌, ◌≤◌, ◌<◌, min}
use native.Mathlib.Omega.{arith}
use borrow.Author.Tests.{le-ltb, le-leb, lt-leb, eq-eqb, ne_eqb}
use lib.Dec.{ltb}
use lib.ListN.{length, get_or, get_elem?, take, drop, length-drop, get_or-eq_default}
use lib.Seq.{sets, take_at, take_all, length-take-le}
use Rattle.semantics.specs.Word.{words_of_bytes}
use Rattle.semantics.specs.Expression.{house_table}
use Rattle.semantics.specs.Reading.{Reading, read, refused, then}
use Rattle.semantics.specs.Net.{Transition, Net}
use Rattle.semantics.specs.Plan.{accept_front, accept_net}
use Rattle.semantics.specs.Marking.{Entry, Counts, read_marking, counts_of}
use Rattle.semantics.specs.Run.{offer}
use Rattle.semantics.specs.Calls.{Situation, situation, SplitEnd, split_by, split_call}
use Rattle.semantics.specs.Print.{bad_input, offer_text}
use Rattle.semantics.proofs.Members.{none-some, length_at}
use Rattle.semantics.proofs.Spans.{refused-read, read_same}
use Rattle.semantics.proofs.Accepted.{accepted_sound, front-inside}
use Rattle.net.specs.Skim.{Outline}
use Rattle.accept.specs.Front.{split_into}
use Rattle.situations.specs.Situation.{Index, Prepared}
use Rattle.word.proofs.Copying.{words-length}
use Rattle.text.specs.Put.{Put}
use Rattle.text.proofs.Putting.{put-none}
use Rattle.printed.specs.declared.part.Part.{Part}
use Rattle.printed.specs.Texts.{menu_texts, marking_texts, net_texts, texts}
use Rattle.offers.specs.Offers.{Ready, IsMenuText}
use Rattle.printed.specs.Part.{IsPart, Accepts, IsNetPart}
use Rattle.semantics.proofs.Cut.{front-alone, front-refused, headed}

-- ── One part ──

-- past the last text there is nothing
pub part_none : (ts : List (List ℕ)) (i : ℕ) {b : List ℕ} → length ts ≤ i → IsPart ts i b (record { written = 0; more = false }) b
part_none ts i {b} h = record { text = subst (λ (t : List ℕ). Put b 0 t b 0) (sym (get_or-eq_default ts [] h)) put-none; more = sym (le-ltb (suc i) (length ts) (omega arith)) }

pub part-first : {t b c : List ℕ} {i end : ℕ} → i ≡ 0 → Put b 0 t c end → IsPart (t ∷ []) i b (record { written = end; more = false }) c
part-first e p = rw e (record { text = p; more = refl })

-- ── Transitions ──

module _ (net : Net) (m : Counts) where
  pub menus_length : (i : ℕ) (ts : List Transition) → length (menu_texts net m i ts) ≡ length ts
  unfolding menu_texts
  menus_length i [] = refl
  menus_length i (t ∷ ts) = ap suc (menus_length (suc i) ts)

  pub menus_at : (i : ℕ) (ts : List Transition) (k : ℕ) (t : Transition) → get_elem? ts k ≡ some t → get_or (menu_texts net m i ts) k [] ≡ offer_text (i + k) (offer house_table net 1000000 4096 t m)
  unfolding menu_texts
  menus_at i [] k t e = none-some e
  menus_at i (x ∷ ts) zero t e =
      let s : i ≡ i + 0 = omega arith in
      let q : x ≡ t = cc in
      ap (λ (j : ℕ). offer_text j (offer house_table net 1000000 4096 x m)) s ∙ ap (λ (u : Transition). offer_text (i + 0) (offer house_table net 1000000 4096 u m)) q
  menus_at i (x ∷ ts) (suc k) t e =
      let s : suc i + k ≡ i + suc k = omega arith in
      menus_at (suc i) ts k t e ∙ ap (λ (j : ℕ). offer_text j (offer house_table net 1000000 4096 t m)) s

-- net and transition are accepted: then the marking decides
module _ (ws ms : List ℕ) (i : ℕ) (net : Net) (next : ℕ) (t : Transition) (p : accept_net ws ≡ read net next) (q : get_elem? net.transitions i ≡ some t) where
  marking_refused : (n at : ℕ) → situation ws i ms ≡ refused n at → read_marking net ms ≡ refused n at
  unfolding situation
  marking_refused n at h = by (read_marking net ms) (rw (p, q) at h)
    where
      by : (x : Reading (List Entry)) → then {B = Situation} x (λ es e. read (record { net = net; transition = t; counts = counts_of es }) 0) ≡ refused n at → x ≡ refused n at
      by (read es e) g = refused-read n at _ 0 (sym g)
      by (refused k a) g = let u : k ≡ n = cc in let v : a ≡ at = cc in rw (u, v) refl

  pub record Marked (s : Situation) : Type 0 where
    pub entries : List Entry
    pub end : ℕ
    pub marked : read_marking net ms ≡ read entries end
    pub is : s ≡ record { net = net; transition = t; counts = counts_of entries }

  marking_read_lem : (s : Situation) → situation ws i ms ≡ read s 0 → Marked s
  unfolding situation
  marking_read_lem s h = by (read_marking net ms) refl (rw (p, q) at h)
    where
      by : (x : Reading (List Entry)) → read_marking net ms ≡ x → then {B = Situation} x (λ es e. read (record { net = net; transition = t; counts = counts_of es }) 0) ≡ read s 0 → Marked s
      by (read es e) m g = record { entries = es; end = e; marked = m; is = (read_same s _ 0 0 (sym g)).0 }
      by (refused k a) m g = refused-read k a s 0 g

module _ (ws ms : List ℕ) {i : ℕ} where
  -- no transition has the number
  pub net_past : {b : List ℕ} → get_or ws 0 0 % 256 ≤ i → IsNetPart ws ms i b (record { written = 0; more = false }) b
  net_past {b} h = record { part = λ net next p. by net next p (read_marking net ms) }
    where
      by : (net : Net) (next : ℕ) → accept_net ws ≡ read net next → (x : Reading (List Entry)) → IsPart (marking_texts net x) i b (record { written = 0; more = false }) b
      by net next p (read es e) =
          let c = (headed ws net next p).counted in
          let l = menus_length net (counts_of es) 0 net.transitions in
          part_none (menu_texts net (counts_of es) 0 net.transitions) i (omega arith)
      by net next p (refused n at) =
          let c = (headed ws net next p).counted in
          let s = (accepted_sound ws net next p).some-transitions in
          part_none (bad_input n at ∷ []) i (omega arith)

  module _ (h : i < get_or ws 0 0 % 256) where
    below : (net : Net) (next : ℕ) → accept_net ws ≡ read net next → (t : Transition) × (get_elem? net.transitions i ≡ some t)
    below net next p = let c = (headed ws net next p).counted in length_at net.transitions i (omega arith)

    pub net-refused : {n at k l : ℕ} {r : Part} {b c : List ℕ} → situation ws i ms ≡ refused n at → k ≡ n → l ≡ at → IsPart (bad_input k l ∷ []) i b r c → IsNetPart ws ms i b r c
    net-refused {n} {at} {k} {l} {r} {b} {c} z d e q =
        record {
          part = λ net next p.
              let t = below net next p in
              let m = marking_refused ws ms i net next t.0 p t.1 n at z in
              let told = subst (λ (x : ℕ). IsPart (bad_input n x ∷ []) i b r c) e (subst (λ (x : ℕ). IsPart (bad_input x l ∷ []) i b r c) d q) in
              subst (λ (x : Reading (List Entry)). IsPart (marking_texts net x) i b r c) (sym m) told;
        }

    pub net_ready : {s : Index} → Prepared ws i ms s → Ready ws i ms s.transition.variables
    net_ready P =
        record { there = record { net = P.net; transition = P.transition; counts = counts_of P.entries }; same = P.same; wide = ap (λ (o : Outline). o.variables) P.outlines }

    pub net-menu : {s : Index} {written : ℕ} {b c : List ℕ} → Prepared ws i ms s → IsMenuText ws i ms b written c → IsNetPart ws ms i b (record { written = written; more = ltb (i + 1) (get_or ws 0 0 % 256) }) c
    net-menu {s} {written} {b} {c} z x = record { part = by }
      where
        by : (net : Net) (next : ℕ) → accept_net ws ≡ read net next → IsPart (marking_texts net (read_marking net ms)) i b (record { written = written; more = ltb (i + 1) (get_or ws 0 0 % 256) }) c
        by net next p =
            let R = net_ready z in
            let t = below net next p in
            let M = marking_read_lem ws ms i net next t.0 p t.1 R.there R.same in
            let l = menus_length net (counts_of M.entries) 0 net.transitions in
            let k = (headed ws net next p).counted in
            let f : i + 1 ≡ suc i = omega arith in
            let g = menus_at net (counts_of M.entries) 0 net.transitions i t.0 t.1 in
            let o : 0 + i ≡ i = omega arith in
            let y = ap (λ (u : Situation). offer_text i (offer house_table u.net 1000000 4096 u.transition u.counts)) M.is in
            rw M.marked
            (record {
              text = subst (λ (u : List ℕ). Put b 0 u c written) (y ∙ sym (g ∙ ap (λ (j : ℕ). offer_text j (offer house_table net 1000000 4096 t.0 (counts_of M.entries))) o)) (x.put R.there R.same);
              more = rw (l, k, f) refl;
            })

-- ── Words ──

module _ (ws : List ℕ) {part : List ℕ} {n p i : ℕ} {b c : List ℕ} {r : Part} (e : split_into part n p ≡ split_call ws) where
  pub words-refused : (n ≡ 0 → ⊥) → IsPart (bad_input n p ∷ []) i b r c → IsPart (net_texts ws (accept_front ws)) i b r c
  unfolding split_call
  words-refused h q = by (accept_front ws) e
    where
      by : (x : Reading Net) → split_into part n p ≡ split_by ws x → IsPart (net_texts ws x) i b r c
      by (read net next) g = absurd (h (ap (λ (s : SplitEnd). s.refusal.number) g))
      by (refused m at) g = rw (← ap (λ (s : SplitEnd). s.refusal.number) g, ← ap (λ (s : SplitEnd). s.refusal.position) g) q

-- the net at the front, and the words after it
pub record Splits (ws part : List ℕ) : Type 0 where
  pub net : Net
  pub next : ℕ
  pub front : accept_front ws ≡ read net next
  pub rest : part ≡ drop next ws
  pub cut : length ws - length part ≡ next
  pub inside : length part ≤ length ws

pub words_split : (ws part : List ℕ) (n p : ℕ) → split_into part n p ≡ split_call ws → n ≡ 0 → Splits ws part
unfolding split_call
words_split ws part n p e h = by (accept_front ws) refl e
  where
    by : (x : Reading Net) → accept_front ws ≡ x → split_into part n p ≡ split_by ws x → Splits ws part
    by (read net next) f g =
        let r : part ≡ drop next ws = ap (λ (s : SplitEnd). s.rest) g in
        let l = ap length r ∙ length-drop next ws in
        let i = (front-inside ws net next f).in_words in
        record { net = net; next = next; front = f; rest = r; cut = omega arith; inside = omega arith }
    by (refused m at) f g = let z : n ≡ m = ap (λ (s : SplitEnd). s.refusal.number) g in absurd (omega (arith, front-refused ws m at f))

module _ {ws part : List ℕ} (s : Splits ws part) where
  alone : accept_net (take (length ws - length part) ws) ≡ read s.net s.next
  alone = subst (λ (k : ℕ). accept_net (take k ws) ≡ read s.net s.next) (sym s.cut) (front-alone ws s.net s.next s.front)

  pub split_accepts : Accepts (take (length ws - length part) ws)
  split_accepts = record { net = s.net; next = s.next; accepted = alone }

  pub split_part : {i : ℕ} {b c : List ℕ} {r : Part} → IsNetPart (take (length ws - length part) ws) part i b r c → IsPart (net_texts ws (accept_front ws)) i b r c
  split_part {i} {b} {c} {r} q =
      rw s.front (subst (λ (ms : List ℕ). IsPart (marking_texts s.net (read_marking s.net ms)) i b r c) s.rest (q.part s.net s.next alone))

-- ── Bytes ──

-- what is told of a part
pub record Told (ts : List (List ℕ)) (i : ℕ) (b : List ℕ) (r : Part) (c : List ℕ) : Type 0 where
  pub buffer : c ≡ sets b 0 (get_or ts i [])
  pub written : r.written ≡ min (length (get_or ts i [])) (length b)
  pub more : r.more ≡ ltb (suc i) (length ts)

module _ (bytes : List ℕ) {i : ℕ} {b c : List ℕ} {r : Part} where
  told : {ts : List (List ℕ)} → texts bytes ≡ ts → IsPart ts i b r c → Told (texts bytes) i b r c
  told e p = let w = p.text.ends in subst (λ (us : List (List ℕ)). Told us i b r c) (sym e) (record { buffer = p.text.bytes; written = omega arith; more = p.more })

  pub told-long : 65536 < length bytes → IsPart (bad_input 1 16384 ∷ []) i b r c → Told (texts bytes) i b r c
  unfolding texts
  told-long h p = told (rw (lt-leb (length bytes) 65536 h) refl) p

  pub told-spare : length bytes ≤ 65536 → (length bytes % 4 ≡ 0 → ⊥) → IsPart (bad_input 2 (length bytes / 4) ∷ []) i b r c → Told (texts bytes) i b r c
  unfolding texts
  told-spare h k p = told (rw (le-leb (length bytes) 65536 h, ne_eqb (length bytes % 4) 0 k) refl) p

  pub told-words : {words : List ℕ} {n : ℕ} (rest : List ℕ) → length bytes ≤ 65536 → length bytes % 4 ≡ 0 → n ≡ min (length bytes / 4) 16384 → words ≡ take n (words_of_bytes bytes) ++ rest → IsPart (net_texts (take n words) (accept_front (take n words))) i b r c → Told (texts bytes) i b r c
  unfolding texts
  told-words {words} {n} rest h k e w p =
      let l = words-length bytes in
      let m : length (words_of_bytes bytes) ≤ n = omega arith in
      let s : take n words ≡ words_of_bytes bytes = ap (take n) w ∙ take_at (take n (words_of_bytes bytes)) rest n (length-take-le n (words_of_bytes bytes) (omega arith)) ∙ take_all n (words_of_bytes bytes) m in
      told (rw (le-leb (length bytes) 65536 h, eq-eqb (length bytes % 4) 0 k) refl) (subst (λ (us : List ℕ). IsPart (net_texts us (accept_front us)) i b r c) s p)
