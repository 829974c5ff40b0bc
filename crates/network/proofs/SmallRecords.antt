-- Whatever bytes are read, they give small numbers and small operations: bytes are read modulo 256, and desks modulo 32.
use Rattle.std.proofs.Common.{ℕ, zero, suc, ◌+◌, ◌*◌, ◌%◌, ◌<◌, true, false, eqb, List, [], ◌∷◌, sym, subst, ⊎_elim, arith}
use Rattle.ops.specs.Doc.{pick, id, Op, put_in, struck, under, added}
use Rattle.ops.proofs.Members.{In, in_append, in_only}
use Rattle.messages.specs.Bytes.{byte, number_at}
use Rattle.messages.specs.Records.{kind_by, op_from, records, SmallKind, SmallOp}

pub number_small : (bs : List ℕ) (p : ℕ) → number_at bs p < 4294967296
number_small bs p = omega arith

kind_small : (k a x y : ℕ) → a < 32 → x < 4294967296 → y < 4294967296 → SmallKind (kind_by k a x y)
unfolding kind_by
kind_small k a x y ha hx hy =
    elim (eqb k 0) as (λ b. SmallKind (pick b (put_in (id x a) y) (pick (eqb k 1) (struck (id x a)) (pick (eqb k 2) (under x y) (added x y))))) [
      | true ↦ (hx, ha, hy)
      | false ↦
          elim (eqb k 1) as (λ b. SmallKind (pick b (struck (id x a)) (pick (eqb k 2) (under x y) (added x y)))) [
            | true ↦ (hx, ha)
            | false ↦ elim (eqb k 2) as (λ b. SmallKind (pick b (under x y) (added x y))) [ true ↦ (hx, hy) | false ↦ (hx, hy) ]
          ]
    ]

desk_small : (n : ℕ) → n % 32 < 32
desk_small n = omega arith

record_small : (bs : List ℕ) (p : ℕ) → SmallOp (op_from bs p)
unfolding op_from
record_small bs p = (
  number_small bs p,
  desk_small (byte bs (p + 4)),
  kind_small (byte bs (p + 5)) (byte bs (p + 6) % 32) (number_at bs (p + 8)) (number_at bs (p + 12)) (desk_small (byte bs (p + 6))) (number_small bs (p + 8)) (number_small bs (p + 12)),
)

pub records_small : (k : ℕ) (bs : List ℕ) (o : Op) → In o (records k bs) → SmallOp o
unfolding records
records_small zero bs o i = absurd i
records_small (suc k) bs o i =
    ⊎_elim (λ a. records_small k bs o a) (λ a. subst (λ (q : Op). SmallOp q) (sym (in_only (op_from bs (132 + k * 16)) o a)) (record_small bs (132 + k * 16)))
    (in_append (records k bs) (op_from bs (132 + k * 16) ∷ []) o i)
