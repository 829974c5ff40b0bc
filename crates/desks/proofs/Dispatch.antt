-- Which event a step is told by its number, and the whole step from its part.
use Rattle.std.proofs.Common.{◌≡◌, ℕ, suc, ◌<◌, Bool, true, false, leb, ◌⊎◌, List, [], ◌∷◌, ◌++◌, length, take, drop, set, Some, None, Ok, Err, Option, Result, sym, refl, ap, ◌∙◌, subst, inl, inr, arith}
use Rattle.std.proofs.lemmas.List.{length-take-le}
use Rattle.ops.specs.Doc.{pick, write_under, add_to, show_key}
use Rattle.ops.specs.Values.{held}
use Rattle.ops.specs.declared.types.Memory.{Memory}
use Rattle.desks.specs.Run.{Event, opens, said, letter_to, hears, next, Act, Step}
use Rattle.desks.specs.Machine.{is_open, refusal, step_own}
use Rattle.desks.specs.Calls.{call_number}
use Rattle.desks.specs.Entry.{own, event_of, ActTold, StepSays, step_fits}
use Rattle.desks.specs.Refusals.{number_of}
use Rattle.desks.specs.Acts.{Acts, quiet, word, rest, posted, Front, Posts, PostsIf}
use Rattle.desks.specs.Report.{sent_of}
use Rattle.desks.specs.declared.refusal.Refusal.{Refusal}
use Rattle.desks.specs.declared.call.Call.{Call}
use Rattle.desks.specs.declared.call.Call.TheVariants.{Open, Insert, Strike, Write, Add, ShowText, ShowKey, Send, Read, GoOn}
use Rattle.desks.specs.declared.Told.{Told}
use Rattle.desks.specs.declared.Told.TheVariants.{Shows, Sends, Done, No}
use Rattle.desks.proofs.Refusals.{unknown_insert, unknown_strike, unknown-text}
use Rattle.desks.proofs.Telling.{refuses}
use Rattle.desks.proofs.Sizes.{fits_out}

pub misfit : (m : List ℕ) (k a b : ℕ) (l row out : List ℕ) → false ≡ step_fits m k l row out → (r : Told) → r ≡ No 0 → StepSays m k a b l row out (step_fits m k l row out) r m row out
unfolding StepSays
misfit m k a b l row out e r f = subst (λ t. StepSays m k a b l row out t r m row out) e (f, refl, refl, refl)

-- the whole step, by what the machine does
whole : (m : List ℕ) (k a b : ℕ) (l row out : List ℕ) → true ≡ step_fits m k l row out → (ev : Event) → event_of k a b l ≡ ev → (r : Told) (cells row₁ out₁ : List ℕ) → cells ≡ (step_own m ev).memory →
    ActTold (step_own m ev).act r row row₁ out out₁ → StepSays m k a b l row out (step_fits m k l row out) r cells row₁ out₁
unfolding StepSays own
whole m k a b l row out fits ev e r cells row₁ out₁ h t =
    subst (λ f. StepSays m k a b l row out f r cells row₁ out₁) fits (subst (λ ev. (cells ≡ (step_own m ev).memory) × ActTold (step_own m ev).act r row row₁ out out₁) (sym e) (h, t))

-- and by its act; the cells are given back as they are then
pub stepped : (m m₁ : Memory) (k a b : ℕ) (l row row₁ out out₁ : List ℕ) → true ≡ step_fits (held m) k l row out → (ev : Event) → event_of k a b l ≡ ev → (r : Told) (cells : List ℕ) → cells ≡ held m₁ → (act : Act) →
    Acts (step_own (held m) ev) act m m₁ → ActTold act r row row₁ out out₁ → StepSays (held m) k a b l row out (step_fits (held m) k l row out) r cells row₁ out₁
stepped m m₁ k a b l row row₁ out out₁ fits ev e r cells back act q t =
    whole (held m) k a b l row out fits ev e r cells row₁ out₁ (back ∙ q.after.after) (subst (λ x. ActTold x r row row₁ out out₁) (sym q.act) t)

-- HOW AN ANSWER IS TOLD
pub done_ok : (x : Result (Unit {0}) Refusal) (v : Unit {0}) → x ≡ Ok v → (row out : List ℕ) → ActTold (quiet x) Done row row out out
unfolding ActTold
done_ok x v e row out = subst (λ y. ActTold (quiet y) Done row row out out) (sym e) (refl, refl, refl)

pub done_no : (x : Result (Unit {0}) Refusal) (k : Refusal) (r : Told) → x ≡ Err k → r ≡ No (number_of k) → (row out : List ℕ) → ActTold (quiet x) r row row out out
unfolding ActTold
done_no x k r e f row out = subst (λ y. ActTold (quiet y) r row row out out) (sym e) (f, refl, refl)

-- one number in a row
one_shown : (row : List ℕ) (n : ℕ) → 0 < length row → set row 0 n ≡ (n ∷ []) ++ drop 1 row
one_shown [] n h = absurd (omega arith)
one_shown (x ∷ row) n h = refl

module _ (x : Result (Option ℕ) Refusal) (row : List ℕ) where
  pub word_none : (f : Option ℕ) → x ≡ Ok f → f ≡ None → (out : List ℕ) → ActTold (word x) (Shows 0) row row out out
  unfolding ActTold
  word_none f e i out = subst (λ y. ActTold (word y) (Shows 0) row row out out) (sym (e ∙ ap Ok i)) (refl, refl, refl)

  pub word_some : (f : Option ℕ) (w n : ℕ) → 0 < length row → x ≡ Ok f → f ≡ Some w → n ≡ w → (out : List ℕ) → ActTold (word x) (Shows 1) row (set row 0 n) out out
  unfolding ActTold
  word_some f w n h e i g out = subst (λ y. ActTold (word y) (Shows 1) row (set row 0 n) out out) (sym (e ∙ ap Ok (i ∙ ap Some (sym g)))) (refl, one_shown row n h, refl)

  pub word_no : (k : Refusal) (r : Told) → x ≡ Err k → r ≡ No (number_of k) → (out : List ℕ) → ActTold (word x) r row row out out
  unfolding ActTold
  word_no k r e f out = subst (λ y. ActTold (word y) r row row out out) (sym e) (f, refl, refl)

  pub rest_none : (f : Option ℕ) → x ≡ Ok f → f ≡ None → (out : List ℕ) → ActTold (rest x) Done row row out out
  unfolding ActTold
  rest_none f e i out = subst (λ y. ActTold (rest y) Done row row out out) (sym (e ∙ ap Ok i)) (refl, refl, refl)

  pub rest_some : (f : Option ℕ) (n : ℕ) → 0 < length row → x ≡ Ok f → f ≡ Some n → (out : List ℕ) → ActTold (rest x) (Shows 1) row (set row 0 n) out out
  unfolding ActTold
  rest_some f n h e i out = subst (λ y. ActTold (rest y) (Shows 1) row (set row 0 n) out out) (sym (e ∙ ap Ok i)) (refl, one_shown row n h, refl)

  pub rest_no : (k : Refusal) (r : Told) → x ≡ Err k → r ≡ No (number_of k) → (out : List ℕ) → ActTold (rest x) r row row out out
  unfolding ActTold
  rest_no k r e f out = subst (λ y. ActTold (rest y) r row row out out) (sym e) (f, refl, refl)

-- a letter that was made is told by its length
pub sent_told : (x : Result ℕ Refusal) (row out out₁ : List ℕ) → Front x out out₁ → ActTold (posted out₁ x) (sent_of x) row row out out₁
unfolding ActTold
sent_told (Ok n) row out out₁ f =
    let e : length (take n out₁) ≡ n = length-take-le n out₁ f.0 in
    (ap Sends (sym e), refl, f.1 ∙ ap (λ k. take n out₁ ++ drop k out) (sym e))
sent_told (Err k) row out out₁ f = (refl, refl, f)

pub stepped_sent : (m m₁ : Memory) (k a b : ℕ) (l row out out₁ : List ℕ) → true ≡ step_fits (held m) k l row out → (ev : Event) → event_of k a b l ≡ ev → (r : Told) (cells : List ℕ) → cells ≡ held m₁ → (x : Result ℕ Refusal) →
    PostsIf (leb 4096 (length out)) (step_own (held m) ev) x m m₁ out out₁ → r ≡ sent_of x → StepSays (held m) k a b l row out (step_fits (held m) k l row out) r cells row out₁
stepped_sent m m₁ k a b l row out out₁ fits ev e r cells back x p er =
    let q : Posts (step_own (held m) ev) x m m₁ out out₁ = subst (λ c. PostsIf c (step_own (held m) ev) x m m₁ out out₁) (fits_out (held m) k l row out fits) p in
    stepped m m₁ k a b l row row out out₁ fits ev e r cells back (posted out₁ x) q.acts (subst (λ t. ActTold (posted out₁ x) t row row out out₁) (sym er) (sent_told x row out out₁ q.front))

-- the events by their calls
module _ (k a b : ℕ) (l : List ℕ) (call : Call) (number : call_number call ≡ k) where
  at : (x : Call) → call ≡ x → k ≡ call_number x
  at x e = sym number ∙ ap call_number e

  pub told_open : call ≡ Open → event_of k a b l ≡ opens a
  unfolding event_of
  told_open e = rw (at Open e) refl

  pub told_write : call ≡ Write → event_of k a b l ≡ said (write_under a b)
  unfolding event_of
  told_write e = rw (at Write e) refl

  pub told_add : call ≡ Add → event_of k a b l ≡ said (add_to a b)
  unfolding event_of
  told_add e = rw (at Add e) refl

  pub told_show : call ≡ ShowKey → event_of k a b l ≡ said (show_key a)
  unfolding event_of
  told_show e = rw (at ShowKey e) refl

  pub told_send : call ≡ Send → event_of k a b l ≡ letter_to a
  unfolding event_of
  told_send e = rw (at Send e) refl

  pub told_hear : call ≡ Read → event_of k a b l ≡ hears a l
  unfolding event_of
  told_hear e = rw (at Read e) refl

  pub told_next : call ≡ GoOn → event_of k a b l ≡ next
  unfolding event_of
  told_next e = rw (at GoOn e) refl

  -- the others aren't known
  pub told-unknown : (m : List ℕ) → (call ≡ Insert) ⊎ ((call ≡ Strike) ⊎ (call ≡ ShowText)) → refusal m (event_of k a b l) ≡ pick (is_open m) 2 3
  unfolding event_of
  told-unknown m (inl e) = rw (at Insert e) (unknown_insert m a b)
  told-unknown m (inr (inl e)) = rw (at Strike e) (unknown_strike m a)
  told-unknown m (inr (inr e)) = rw (at ShowText e) (unknown-text m)

pub step_unknown : (m : List ℕ) (k a b n : ℕ) (l row out : List ℕ) → true ≡ step_fits m k l row out → refusal m (event_of k a b l) ≡ pick (is_open m) 2 3 → n ≡ pick (is_open m) 2 3 →
    (cells : List ℕ) → cells ≡ m → (r : Told) → r ≡ No n → StepSays m k a b l row out (step_fits m k l row out) r cells row out
step_unknown m k a b n l row out fits unknown e cells back r er = go (is_open m) e unknown
  where
    ev : Event
    ev = event_of k a b l

    told : (j : ℕ) → n ≡ suc j → refusal m ev ≡ suc j → StepSays m k a b l row out (step_fits m k l row out) r cells row out
    told j p q =
        let s = refuses m ev j q in
        whole m k a b l row out fits ev refl r cells row out (back ∙ sym (ap (λ (s : Step). s.memory) s))
        (unfold ActTold in (subst (λ (s : Step). ActTold s.act r row row out out) (sym s) (er ∙ ap No p, refl, refl)))

    go : (t : Bool) → n ≡ pick t 2 3 → refusal m ev ≡ pick t 2 3 → StepSays m k a b l row out (step_fits m k l row out) r cells row out
    go true p q = told 1 p q
    go false p q = told 2 p q
