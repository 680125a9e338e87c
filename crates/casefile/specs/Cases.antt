-- A case in bytes (document 01, "Case file and program"): its parts, when it is malformed, and what it holds.
use Rattle.std.specs.Prelude.{Bool, ◌&&◌, cond, List, [], ◌∷◌, ℕ, zero, suc, ◌+◌, ◌-◌, ◌*◌, ◌/◌, ◌%◌, leb, eqb, length, get_or, take, drop}
use Rattle.monitor.specs.Monitors.{Opening}

-- numbers of 16 and 32 bits at a place, low byte first
abbrev pub half : List ℕ → ℕ → ℕ
half b k = get_or b k 0 + get_or b (k + 1) 0 * 256

abbrev pub wide : List ℕ → ℕ → ℕ
wide b k = half b k + half b (k + 2) * 65536

-- the pairs of offset and length: policy, grants, events, and from document 02's E4 on permissions and workflow
abbrev pub offset : List ℕ → ℕ → ℕ
offset b part = half b (part * 4)

abbrev pub part_length : List ℕ → ℕ → ℕ
part_length b part = half b (part * 4 + 2)

abbrev pub end_of : List ℕ → ℕ → ℕ
end_of b part = offset b part + part_length b part

-- "The case file gets two more pairs after events, permissions then plan, so its first offset is 20."
abbrev pub has_five : List ℕ → Bool
has_five b = eqb (offset b 0) 20

-- The first part begins behind the pairs: at 20, in a file that has room for five, or at 12.
abbrev pub pairs_ok : List ℕ → Bool
pairs_ok b = cond (has_five b) (leb 20 (length b)) (eqb (offset b 0) 12)

-- the next part begins where this one ended; this one ends the file
abbrev pub is_joined : List ℕ → ℕ → Bool
is_joined b part = eqb (offset b (part + 1)) (end_of b part)

abbrev pub is_last : List ℕ → ℕ → Bool
is_last b part = eqb (length b) (end_of b part)

-- each part begins where the last ended, and the last one ends the file
abbrev pub parts_ok : List ℕ → Bool
parts_ok b = is_joined b 0 && (is_joined b 1 && cond (has_five b) (is_joined b 2 && (is_joined b 3 && is_last b 4)) (is_last b 2))

-- policy and events are multiples of 4, events at most 1,024 bytes; grants at least 2 bytes and of even length
abbrev pub lengths_ok : List ℕ → Bool
lengths_ok b =
    eqb (part_length b 0 % 4) 0
    && (eqb (part_length b 2 % 4) 0
    && (leb (part_length b 2) 1024
    && (leb 2 (part_length b 1)
    && eqb (part_length b 1 % 2) 0)))

-- 14 applies where this is false
unfoldable pub case_ok : List ℕ → Bool
case_ok b = leb 12 (length b) && (leb (length b) 4096 && (pairs_ok b && (parts_ok b && lengths_ok b)))

-- n numbers from place k on, each a width behind the last
abbrev pub numbers : {A : Type 0} → (ℕ → A) → ℕ → ℕ → ℕ → List A
numbers at width k zero = []
numbers at width k (suc n) = at k ∷ numbers at width (k + width) n

abbrev pub wides : List ℕ → ℕ → ℕ → List ℕ
wides b = numbers (wide b) 4

abbrev pub halves : List ℕ → ℕ → ℕ → List ℕ
halves b = numbers (half b) 2

-- the bytes from one place to another
abbrev pub slice : List ℕ → ℕ → ℕ → List ℕ
slice b k n = take (n - k) (drop k b)

-- what a case's opening is given: policy words; users count, roles count and a row a user; permissions and workflow
abbrev pub opening_between : List ℕ → List ℕ → List ℕ → Opening
opening_between b permissions workflow = record {
  users = get_or b (offset b 1) 0;
  roles = get_or b (offset b 1 + 1) 0;
  words = wides b (offset b 0) (part_length b 0 / 4);
  rows = halves b (offset b 1 + 2) ((part_length b 1 - 2) / 2);
  permissions = permissions;
  workflow = workflow;
}

-- a part's bytes; permissions and workflow are not given in a case of three pairs
abbrev pub part_of : List ℕ → ℕ → List ℕ
part_of b part = cond (has_five b) (slice b (offset b part) (end_of b part)) []

abbrev pub opening_of : List ℕ → Opening
opening_of b = opening_between b (part_of b 3) (part_of b 4)

-- its event words
abbrev pub event_words : List ℕ → List ℕ
event_words b = wides b (offset b 2) (part_length b 2 / 4)
