-- A log hangs together where no id is there twice and each operation fits: the test for it in terms of members.
use Rattle.std.proofs.Common.{◌≡◌, ◌≤◌, Bool, true, ◌&&◌, leb, List, refl, inl, inr}
use Rattle.std.proofs.lemmas.Bool.{and_parts, and_from, leb-true, le-leb}
use Rattle.ops.specs.Doc.{every, Id, begin, same_id, Kind, put_in, struck, under, added, Op, names_once, is_sign, has_sign, about, older, hangs}
use Rattle.ops.proofs.Members.{In, or_inl, or_inr, or_case, in_any, any_in, every_in, in_every}
use Rattle.network.proofs.Distinct.{Distinct, names_distinct, distinct_names}

-- its number is not the beginning's, what it is about is in the log, and it is newer than that
pub record Fits (ops : List Op) (o : Op) : Type 0 where
  pub numbered : 1 ≤ o.name.n
  pub known : about ops o.kind ≡ true
  pub newer : older o.name o.kind ≡ true

pub record Hangs (ops : List Op) : Type 0 where
  pub distinct : Distinct ops
  pub fits : (o : Op) → In o ops → Fits ops o

pub hangs_from : (ops : List Op) → hangs ops ≡ true → Hangs ops
hangs_from ops h =
    let f : Op → Bool = λ o. leb 1 o.name.n && (about ops o.kind && older o.name o.kind) in
    let r = and_parts (names_once ops) (every f ops) h in
    record {
      distinct = names_distinct ops r.0;
      fits = λ o m.
          let a = and_parts (leb 1 o.name.n) (about ops o.kind && older o.name o.kind) (every_in f ops r.1 o m) in
          let b = and_parts (about ops o.kind) (older o.name o.kind) a.1 in
          record { numbered = leb-true 1 o.name.n a.0; known = b.0; newer = b.1 };
    }

pub from_hangs : (ops : List Op) → Hangs ops → hangs ops ≡ true
from_hangs ops h =
    let f : Op → Bool = λ o. leb 1 o.name.n && (about ops o.kind && older o.name o.kind) in
    and_from (names_once ops) (every f ops) (distinct_names ops h.distinct)
    (in_every f ops (λ o m.
    and_from (leb 1 o.name.n) (about ops o.kind && older o.name o.kind) (le-leb 1 o.name.n (h.fits o m).numbered)
    (and_from (about ops o.kind) (older o.name o.kind) (h.fits o m).known (h.fits o m).newer)))

-- what is in a log is in a larger one, and an operation that fits the one fits the other
module _ (ops more : List Op) (up : (o : Op) → In o ops → In o more) where
  has_sign_more : (a : Id) → has_sign ops a ≡ true → has_sign more a ≡ true
  has_sign_more a h =
      let f : Op → Bool = λ o. same_id o.name a && is_sign o.kind in
      let r = any_in f ops h in
      in_any f more r.0 (up r.0 r.1) r.2

  pub about_more : (k : Kind) → about ops k ≡ true → about more k ≡ true
  unfolding about
  about_more (put_in a c) h =
      elim (or_case (same_id a begin) (has_sign ops a) h)
      [ inl e ↦ or_inl (same_id a begin) (has_sign more a) e | inr e ↦ or_inr (same_id a begin) (has_sign more a) (has_sign_more a e) ]
  about_more (struck a) h = has_sign_more a h
  about_more (under k v) h = refl
  about_more (added k v) h = refl

  pub fits_more : (o : Op) → Fits ops o → Fits more o
  fits_more o f = record { numbered = f.numbered; known = about_more o.kind f.known; newer = f.newer }
