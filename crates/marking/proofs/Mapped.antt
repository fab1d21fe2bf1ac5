-- What `map_err` gives of an answer where its closure turns every error into one: the same reading, with one number for whatever refuses it.
use mathlib.Core.Path.{◌≡◌, ap, ◌∙◌}
use Prim.Native.Nat.{ℕ}
use Rattle.std.specs.Prelude.{Result, Ok, Err, MatchResult, IsErrAnd}
use Rattle.semantics.specs.declared.refusal.Refusal.{Refusal}
use Rattle.semantics.specs.Reading.{Reading, numbered}

-- where the error of an answer is known
pub err_is : {A : Type 0} (s : Result A Refusal) {P : Refusal → Type 0} {e : Refusal} → IsErrAnd s P → ((d : Refusal) → P d → d ≡ e) → s ≡ Err e
err_is (Ok x) k f = absurd k
err_is (Err d) k f = ap Err (f d k)

pub mapped : {A B : Type 0} (told : Result A Refusal → Reading B) (n : ℕ) (bad : Refusal → Refusal) → ((x : A) → told (Ok x) ≡ numbered n (told (Ok x))) → ((e : Refusal) → told (Err (bad e)) ≡ numbered n (told (Err e)))
    → {P : A → Type 0} {Q : Refusal → Type 0} (r s : Result A Refusal) → MatchResult r P Q → ((x : A) → P x → s ≡ Ok x) → ((e : Refusal) → Q e → s ≡ Err (bad e)) → told s ≡ numbered n (told r)
mapped told n bad ok err (Ok x) s k f g = ap told (f x k) ∙ ok x
mapped told n bad ok err (Err e) s k f g = ap told (g e k) ∙ err e
