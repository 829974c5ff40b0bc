-- A row of signs: what it shows, and what a deed makes of it.
use Rattle.std.specs.Prelude.{◌≡◌, ℕ, ◌+◌, true, false, not, List, map, length, drop, Some, None, Ok, Err, vec_items, Option, Result, nat_lt, slice_index_or, slice_set}
use Rattle.std.specs.List.{insert, prefix_len}
use Rattle.std.specs.declared.alloc.AllocError.{AllocError}
use Rattle.ops.specs.Doc.{pick, those, same_id, id_before}
use Rattle.papers.specs.Deeds.{id_of}
use Rattle.papers.specs.declared.deeds.Deed.{Deed}
use Rattle.papers.specs.declared.deeds.Name.{Name}
use Rattle.papers.specs.declared.deeds.What.{What}
use Rattle.papers.specs.declared.deeds.What.TheVariants.{Put, Strike, Write, Add}
use Rattle.papers.specs.declared.sequence.Sign.{Sign}
use Rattle.papers.specs.declared.sequence.Sequence.{Sequence}

abbrev pub row_of : Sequence → List Sign
row_of s = vec_items s.row

-- those that are not struck
abbrev pub shown : List Sign → List Sign
shown row = those (λ s. not s.struck) row

abbrev pub names : List Sign → List Name
names row = map (λ s. s.name) (shown row)

abbrev pub signs : List Sign → List ℕ
signs row = map (λ s. s.sign) (shown row)

-- how many stand before the sign of a name: all, if it isn't there
abbrev pub before : Name → List Sign → ℕ
before t row = prefix_len (λ s. not (same_id (id_of s.name) (id_of t))) row

-- the place right behind a sign, if it is there, or the first place
abbrev pub start : Option Name → List Sign → Option ℕ
start None row = Some 0
start (Some t) row = pick (nat_lt (before t row) (length row)) (Some (before t row + 1)) None

-- from a place on, past all newer signs
abbrev pub past_newer : Name → ℕ → List Sign → ℕ
past_newer n i row = i + prefix_len (λ s. id_before (id_of n) (id_of s.name)) (drop i row)

-- a new sign goes right behind its target, past the newer ones there; if the target isn't there, it goes nowhere
abbrev pub put_from : Option ℕ → Name → ℕ → List Sign → List Sign
put_from None n c row = row
put_from (Some i) n c row = insert row (past_newer n i row) (record { name = n; sign = c; struck = false })

abbrev pub put_behind : Option Name → Name → ℕ → List Sign → List Sign
put_behind target n c row = put_from (start target row) n c row

-- the sign of a name is crossed
abbrev pub crossed : Sign → Sign
crossed s = record { name = s.name; sign = s.sign; struck = true }

abbrev pub blank : Sign
blank = record { name = record { number = 0; desk = 0 }; sign = 0; struck = false }

abbrev pub struck_out : Name → List Sign → List Sign
struck_out t row = slice_set row (before t row) (crossed (slice_index_or row (before t row) blank))

-- the row after a deed
abbrev pub with_what : Name → What → List Sign → List Sign
with_what n (Put target sign) row = put_behind target n sign row
with_what n (Strike target) row = struck_out target row
with_what n (Write key word) row = row
with_what n (Add key amount) row = row

abbrev pub row_with : Deed → List Sign → List Sign
row_with d row = with_what d.name d.what row

-- a row becomes something else if there is memory for it, and stays as it was if there isn't
abbrev pub Becomes : Sequence → Sequence → (List Sign → List Sign) → Result (Unit {0}) AllocError → Type 0
Becomes s t f (Ok x) = row_of t ≡ f (row_of s)
Becomes s t f (Err e) = row_of t ≡ row_of s
