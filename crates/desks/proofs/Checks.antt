-- What is known after a check, of the value that it hands on or of the refusal that it leaves with.
use Rattle.std.proofs.Common.{◌≡◌, true, false, Some, None, Ok, Err, Option, Result, refl, ◌∙◌, subst}
use Rattle.std.specs.Option.{SomeIff, option_map, ok_or}
use Rattle.std.specs.Result.{IsErrAnd, is_ok}
use Rattle.std.proofs.lemmas.Bool.{both_ways}
use Rattle.desks.specs.Refusals.{Passes}
use Rattle.desks.specs.declared.refusal.Refusal.{Refusal}

pub left : {A B : Type 0} (f : A → B) {P : Type 0} (b : B) {k e : Refusal} (r : Result A Refusal) → IsErrAnd r (λ x. x ≡ e) → e ≡ k → (P → ⊥) → Passes f P b k r
left f b (Ok x) h i n = absurd h
left f b (Err x) h i n = (n, h ∙ i)

pub passed : {A B : Type 0} (f : A → B) {P : Type 0} (b : B) (k : Refusal) (r : Result A Refusal) → Passes f P b k r → true ≡ is_ok r → P
passed f b k (Ok x) h e = h.0
passed f b k (Err x) h e = absurd (both_ways true e refl)

pub not_passed : {A B : Type 0} (f : A → B) {P : Type 0} (b : B) (k : Refusal) (r : Result A Refusal) → Passes f P b k r → false ≡ is_ok r → P → ⊥
not_passed f b k (Ok x) h e = absurd (both_ways false refl e)
not_passed f b k (Err x) h e = h.0

-- an option, once `ok_or` has made it a result
pub refused_by : {A : Type 0} (o : Option A) (e k : Refusal) → ◌≡◌ {A = Result A Refusal} (Err e) (ok_or o k) → e ≡ k
refused_by None e k h = cc
refused_by (Some x) e k h = cc

pub not_there : {A B : Type 0} (f : A → B) {P : Type 0} (v : B) (o : Option A) → o ≡ None → SomeIff (option_map f o) P v → P → ⊥
not_there f v None e h = h
not_there f v (Some x) e h = cc

pub there : {A B : Type 0} (f : A → B) {P : Type 0} (v : B) (o : Option A) (x : A) → o ≡ Some x → SomeIff (option_map f o) P v → P × (f x ≡ v)
there f {P = P} v o x e h = subst (λ q. SomeIff (option_map f q) P v) e h
