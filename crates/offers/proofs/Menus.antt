-- The text of a menu, from what the call menu answers and leaves.
-- The idea: a menu that is found is the whole menu of the transition, and its words read back are its bindings. Rests on Bindings and
-- semantics/proofs/{Plans, Offer}.
use mathlib.Core.Path.{◌≡◌, refl, sym, ap, ◌∙◌, subst}
use mathlib.Core.List.{List, [], ◌∷◌, ◌++◌, map, flat_map}
use Prim.Native.Nat.{ℕ, ◌*◌, ◌≤◌}
use borrow.Author.Tests.{leb-true}
use lib.Dec.{leb}
use lib.IntN.{ℤ}
use lib.ListN.{length, drop}
use Rattle.semantics.specs.Refusal.{most_bindings}
use Rattle.semantics.specs.Word.{value_word}
use Rattle.semantics.specs.Expression.{house_table}
use Rattle.semantics.specs.Reading.{read}
use Rattle.semantics.specs.Marking.{counts_of}
use Rattle.semantics.specs.Run.{menu, Offer, offered, withheld, offer}
use Rattle.semantics.specs.Answer.{Listed, Found, MenuRefused}
use Rattle.semantics.specs.Calls.{Situation, situation, MenuEnd, listed_by, menu_call}
use Rattle.semantics.specs.Print.{decimal, refused_text, line, fields, offer_text}
use Rattle.semantics.proofs.Tests.{false_true, and_right, Every-at}
use Rattle.semantics.proofs.Members.{at_member_lem}
use Rattle.semantics.proofs.Spans.{read_same}
use Rattle.semantics.proofs.Accepted.{SoundTransition, accepted_sound}
use Rattle.semantics.proofs.Offer.{made-offer}
use Rattle.semantics.proofs.Plans.{Listing, listing}
use Rattle.rows.specs.Rows.{rows_of}
use Rattle.text.specs.Put.{Put}
use Rattle.text.proofs.Putting.{put_then}
use Rattle.offers.specs.Offers.{rows_text, Ready, IsMenuText}
use Rattle.offers.proofs.Bindings.{menu-fits, rows_back}

abbrev ended : Listed → List ℕ → MenuEnd
ended a after = record { answer = a; buffer = after }

module _ (buffer : List ℕ) {ws ms after : List ℕ} {t width : ℕ} {a : Listed} (R : Ready ws t ms width) (E : ended a after ≡ menu_call ws t ms 1000000 buffer) (size : length buffer ≡ 4096) where
  -- ── A menu that is found ──

  module _ {n w : ℕ} (d : a ≡ Found n w) where
    list : Listing ws t ms 1000000 buffer n w
    list = listing ws t ms 1000000 buffer n w (sym (ap (λ (e : MenuEnd). e.answer) E) ∙ d)

    abbrev found : Situation
    found = record { net = list.accepted; transition = list.transition; counts = counts_of list.entries }

    abbrev bindings : List (List ℤ)
    bindings = menu house_table list.transition (counts_of list.entries)

    there : situation ws t ms ≡ read found 0
    unfolding situation
    there = rw (list.is-net, list.is-transition, list.is_marking) refl

    sound : SoundTransition list.accepted.places list.transition
    sound =
        Every-at (SoundTransition list.accepted.places) (accepted_sound ws list.accepted list.rest list.is-net).transitions
        (at_member_lem list.accepted.transitions t list.transition list.is-transition)

    wide : width ≡ length list.transition.variables
    wide = R.wide ∙ ap (λ (s : Situation). length s.transition.variables) (read_same R.there found 0 0 (sym R.same ∙ there)).0

    -- N × V words are at most those of the buffer
    pub found-room : n * width ≤ length buffer
    found-room =
        let h = leb-true (length bindings * length list.transition.variables) (length buffer) (and_right (leb (length bindings) most_bindings) _ list.made.fits) in
        subst (λ (k : ℕ). k * width ≤ length buffer) (sym list.number) (subst (λ (k : ℕ). length bindings * k ≤ length buffer) (sym wide) h)

    rows_are : rows_of width n after ≡ bindings
    rows_are =
        let e : after ≡ flat_map (map value_word) bindings ++ drop (length (flat_map (map value_word) bindings)) buffer = ap (λ (e : MenuEnd). e.buffer) E ∙ list.words in
        ap (rows_of width n) e
        ∙ ap (λ (k : ℕ). rows_of k n (flat_map (map value_word) bindings ++ drop (length (flat_map (map value_word) bindings)) buffer)) wide
        ∙ ap (λ (k : ℕ). rows_of (length list.transition.variables) k (flat_map (map value_word) bindings ++ drop (length (flat_map (map value_word) bindings)) buffer)) list.number
        ∙ rows_back (length list.transition.variables) bindings (drop (length (flat_map (map value_word) bindings)) buffer)
        (menu-fits house_table list.accepted.places list.transition (counts_of list.entries) sound)

    offer-is : offer house_table list.accepted 1000000 4096 list.transition (counts_of list.entries) ≡ offered bindings w
    offer-is =
        let m = list.made in
        let o = made-offer house_table list.accepted 1000000 (length buffer) list.transition (counts_of list.entries) m.paid m.fits in
        let c : w ≡ _ = m.counted in
        rw (← size, o, ← c) refl

    pub found-text : {b c e : List ℕ} {mid end : ℕ} → Put b 0 (line (decimal t ∷ decimal n ∷ decimal w ∷ [])) c mid → Put c mid (rows_text width n after) e end → IsMenuText ws t ms b end e
    found-text {b} {c} {e} {mid} {end} p q = record { put = λ s h. subst (λ (k : List ℕ). Put b 0 k e end) (whole s h) (put_then p q) }
      where
        whole : (s : Situation) → situation ws t ms ≡ read s 0 → line (decimal t ∷ decimal n ∷ decimal w ∷ []) ++ rows_text width n after ≡ offer_text t (offer house_table s.net 1000000 4096 s.transition s.counts)
        whole s h =
            let same : s ≡ found = (read_same s found 0 0 (sym h ∙ there)).0 in
            ap (λ (bs : List (List ℤ)). line (decimal t ∷ decimal n ∷ decimal w ∷ []) ++ flat_map (λ b. line (fields b)) bs) rows_are
            ∙ ap (λ (k : ℕ). line (decimal t ∷ decimal k ∷ decimal w ∷ []) ++ flat_map (λ b. line (fields b)) bindings) list.number
            ∙ sym (ap (λ (u : Situation). offer_text t (offer house_table u.net 1000000 4096 u.transition u.counts)) same ∙ ap (offer_text t) offer-is)

  -- ── A menu that is refused ──

  pub withheld-text : {m p : ℕ} {b c : List ℕ} {end : ℕ} → a ≡ MenuRefused m p → Put b 0 (line (decimal t ∷ refused_text ∷ decimal m ∷ [])) c end → IsMenuText ws t ms b end c
  unfolding menu_call
  withheld-text {m} {p} {b} {c} {end} d q = record { put = λ s h. by s (offer house_table s.net 1000000 (length buffer) s.transition s.counts) refl (rw h at E) }
    where
      by : (s : Situation) (x : Offer) → offer house_table s.net 1000000 (length buffer) s.transition s.counts ≡ x → ended a after ≡ listed_by buffer (offer house_table s.net 1000000 (length buffer) s.transition s.counts) → Put b 0 (offer_text t (offer house_table s.net 1000000 4096 s.transition s.counts)) c end
      by s (offered bs w) o e =
          let f : MenuRefused m p ≡ Found (length bs) w = sym d ∙ ap (λ (y : MenuEnd). y.answer) (rw o at e) in
          false_true (cc)
      by s (withheld k) o e =
          let f : MenuRefused m p ≡ MenuRefused k 0 = sym d ∙ ap (λ (y : MenuEnd). y.answer) (rw o at e) in
          let g : m ≡ k = cc in
          rw (← size, o, ← g) q
