-- From the laws of one replica, what is promised of all desks, whatever happens between them.
use Rattle.std.proofs.Common.{◌≡◌, ℕ, ◌<◌, Bool, true, not, ◌&&◌, eqb, ltb, List, [], ◌∷◌, ◌++◌, sym, refl, subst}
use Rattle.std.proofs.lemmas.Bool.{ltb-true, eq-eqb, and_parts, not-true, both_ways}
use Rattle.ops.specs.Doc.{every, none_of, each, Op, Command, turn, small_command}
use Rattle.ops.proofs.Members.{in_every}
use Rattle.desks.specs.Run.{Engine, said, letter_to, runs_on, first_letter, exchange, Letter, Desk, desk, desk_at, with_desk, letter_at, Item, at_desk, makes, comes, meet, Right}
use Rattle.desks.specs.Promise.{desks, good_item, opened, Whole}
use Rattle.network.proofs.Laws.{Representation, Bearing, Lawful}
use Rattle.network.proofs.Invariant.{Replica, replica, begins}
use Rattle.network.proofs.Turns.{Turns}
use Rattle.network.proofs.Rows.{letter_at_in, up_to_below, each-length, each_at}
use Rattle.network.proofs.Mirror.{Mirrors, Upheld}
use Rattle.network.proofs.Items.{declined, answered, made, came}
use Rattle.network.proofs.Sync.{synced}

pub two-desks : (i j : ℕ) → ((ltb i 32 && ltb j 32) && not (eqb i j)) ≡ true → (i < 32) × (j < 32) × (i ≡ j → ⊥)
two-desks i j h =
    let r = and_parts (ltb i 32 && ltb j 32) (not (eqb i j)) h in
    let q = and_parts (ltb i 32) (ltb j 32) r.0 in
    (ltb-true i 32 q.0, ltb-true j 32 q.1, λ z. both_ways (eqb i j) (not-true (eqb i j) r.1) (eq-eqb i j z))

module _ {known : Command → Bool} {e : Engine} {cap : ℕ} {Rep : Representation} {Bears : Bearing} (L : Lawful known e cap Rep Bears) where
  -- WHATEVER HAPPENS
  right : Turns known → (is : List Item) (ds : List Desk) (ls : List Letter) → every good_item is ≡ true → Upheld Rep Bears ds ls → Right known e ds ls is
  unfolding Right every good_item
  right T [] ds ls h v = refl
  right T (at_desk i c ∷ is) ds ls h v =
      let p = and_parts (ltb i 32 && small_command c) (every good_item is) h in
      let q = and_parts (ltb i 32) (small_command c) p.0 in
      let hi = ltb-true i 32 q.0 in (
        3,
        (
          (λ kn. let r = answered L T ds ls i c v hi q.1 kn in
              (r.0, r.1, r.2, right T is (with_desk ds i (desk (runs_on 3 e (desk_at ds i).memory (said c)).memory (turn i (desk_at ds i).ops c).ops)) ls p.1 r.3)),
          (λ kn. let r = declined L ds ls i c v hi q.1 kn in
              (r.0, r.1, r.2, right T is (with_desk ds i (desk (runs_on 3 e (desk_at ds i).memory (said c)).memory (desk_at ds i).ops)) ls p.1 r.3)),
        ),
      )
  right T (makes i j ∷ is) ds ls h v =
      let p = and_parts ((ltb i 32 && ltb j 32) && not (eqb i j)) (every good_item is) h in
      let q = two-desks i j p.0 in
      let r = made L ds ls i j v q.0 q.1 q.2 in (
        3,
        r.0,
        right T is (with_desk ds i (desk (runs_on 3 e (desk_at ds i).memory (letter_to j)).memory (desk_at ds i).ops))
            (ls ++ record { from = i; for = j; bytes = first_letter (runs_on 3 e (desk_at ds i).memory (letter_to j)).sent; knew = (desk_at ds i).ops } ∷ []) p.1 r.1,
      )
  right T (comes k ∷ is) ds ls h v =
      came L ds ls (letter_at ls k) (λ ds₁. Right known e ds₁ ls is) v (letter_at_in ls k) (λ ds₁ v₁. right T is ds₁ ls (and_parts true (every good_item is) h).1 v₁)
  right T (meet i j ∷ is) ds ls h v =
      let p = and_parts ((ltb i 32 && ltb j 32) && not (eqb i j)) (every good_item is) h in
      let q = two-desks i j p.0 in
      let r = synced L ds ls i j v q.0 q.1 q.2 in (
        r.0,
        r.1,
        r.2,
        r.3,
        r.4,
        r.5,
        r.6,
        right T is
            (with_desk (with_desk ds i (desk (exchange r.0 r.1 e i j (desk_at ds i).memory (desk_at ds j).memory true).one r.2)) j
            (desk (exchange r.0 r.1 e i j (desk_at ds i).memory (desk_at ds j).memory true).other r.2)) ls p.1 r.7,
      )

  -- AT THE START
  abbrev opened_desk : ℕ → Desk
  opened_desk i = desk (opened 3 e i).memory []

  abbrev opened_replica : ℕ → Replica
  opened_replica i = replica (opened 3 e i).memory [] (λ j d. 0)

  all_open : Upheld Rep Bears (each opened_desk desks) []
  all_open =
      record {
        replicas = opened_replica;
        made = [];
        count = each-length opened_desk 32;
        invariant = begins opened_replica (λ i h. (refl, (λ j d. refl), (L.opens_well i h).1));
        mirrors =
            λ k h. subst (λ d. Mirrors d (opened_replica k)) (sym (each_at opened_desk 32 k h)) (record { memory = refl; to = λ o q. q; back = λ o q. q; distinct = tt });
      }

pub whole : (known : Command → Bool) (e : Engine) (cap : ℕ) (Rep : ℕ → List ℕ → List Op → (ℕ → ℕ → ℕ) → Type 0) (Bears : ℕ → ℕ → List ℕ → (ℕ → ℕ) → List Op → Type 0) →
    Turns known → Lawful known e cap Rep Bears → Whole known e
unfolding Whole
whole known e cap Rep Bears T L = (
  L.steady,
  λ is good few. (
    3,
    in_every (λ i. eqb (opened 3 e i).end 0 && (none_of (opened 3 e i).showed && none_of (opened 3 e i).sent)) desks (λ i k. (L.opens_well i (up_to_below 32 i k)).0),
    right L T is (each (λ i. desk (opened 3 e i).memory []) desks) [] good (all_open L),
  ),
)
