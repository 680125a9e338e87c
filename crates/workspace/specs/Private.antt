-- What the fill's private functions compute: the digits of packed rows, the parts of a set, and what the table of sets holds.
use Rattle.std.specs.Prelude.{◌≡◌, Bool, true, false, ◌&&◌, ◌||◌, cond, ℕ, suc, ◌+◌, ◌-◌, ◌*◌, ◌^◌, ◌≤◌, ◌<◌, eqb, length, get_or, take}
use Rattle.std.proofs.Math.Bool.{So}
use mathlib.Core.List.{List, [], ◌∷◌, ◌++◌, Perm}
use Rattle.std.specs.Int.Bits.{bit_and, bit_or}
use Rattle.soda.specs.Bits.{bit}
use Rattle.soda.specs.Lists.{all}
use Rattle.soda.specs.Terms.{Term, together, apart, well_formed, size, term_at}
use Rattle.soda.specs.Tables.{acts, possible}
use Rattle.policy.specs.Words.{decode, term_of}
use Rattle.shape.specs.Shapes.{is_op, right_sides, term_shape}
use Rattle.shape.specs.declared.Shape.{Shape}
use Rattle.rows.specs.Rows.{place, Packed, satisfied_in, possible_in}
use Rattle.workspace.specs.Workspace.{select, judged, row_of, is_filled, fill_of}
use Rattle.workspace.specs.Trials.{action_by, can_act}
use Rattle.soda.specs.declared.Action.{Action}
use Rattle.workspace.specs.declared.masks.Masks.{Masks}
use Rattle.workspace.specs.declared.parts.Found.{Found}
use Rattle.workspace.specs.declared.entry.Entry.{Entry}
use Rattle.workspace.specs.declared.entry.Stored.{Stored}

-- ── packed rows ──
-- r is one column of a row
abbrev pub Unpacked : Bool → ℕ → ℕ → Type 0
Unpacked e row r = (i : ℕ) → i < 32 → bit i r ≡ bit (place e i) row

-- the masks of a shape: for possible, one side is enough at together and apart too, since the other may stay without actions
pub record Masked (p : Shape) (m : Masks) : Type 0 where
  pub first : Packed 0 (2 ^ p.words - 1) m.first
  pub units : Packed p.units p.units m.units
  pub plus : Packed p.plus p.plus m.plus
  pub either : Packed p.either (bit_or p.either (bit_or p.together p.apart)) m.either
  pub both : Packed p.both p.both m.both
  pub joint : Packed (bit_or p.together p.apart) (bit_or p.together p.apart) m.joint
  pub anyone : Packed p.together p.together m.anyone

-- ── the table of sets ──
-- the set x: its turned row, its row's digits at the words' right sides, and its users
abbrev pub entry_at : List Entry → ℕ → Entry
entry_at sets x = get_or sets x (record { row = record { left = 0; right = 0 }; met = 0; users = 0; twin = 0 })

abbrev pub left_at : List Entry → ℕ → ℕ
left_at sets x = (entry_at sets x).row.left

abbrev pub right_at : List Entry → ℕ → ℕ
right_at sets x = (entry_at sets x).row.right

abbrev pub users_at : List Entry → ℕ → ℕ
users_at sets x = (entry_at sets x).users

-- ── the parts of a set ──
-- x is a part of s, neither empty nor s
pub record Part (x s : ℕ) : Type 0 where
  pub some : 0 < x
  pub less : x < s
  pub within : bit_and x s ≡ x

-- the digits of a number, and those of a pair
abbrev pub digits : ℕ → ℕ → Bool
digits r q = bit q r

abbrev pub found_in : Found → ℕ → Bool
found_in r q = bit q r.ahead || bit q r.back

-- the digits at which f holds of some part that is neither empty nor s
pub record JoinedBy (f : ℕ → ℕ → Bool) (s : ℕ) (has : ℕ → Bool) : Type 0 where
  pub found : (q : ℕ) → So (has q) → (x : ℕ) × Part x s × So (f x q)
  pub each : (q x : ℕ) → Part x s → So (f x q) → So (has q)

-- they are those of r
abbrev pub Joined : (ℕ → ℕ → Bool) → ℕ → ℕ → Type 0
Joined f s r = JoinedBy f s (digits r)

-- s is t with one action more, behind all of t's
pub record Next (s t : ℕ) : Type 0 where
  pub last : ℕ
  pub is : s ≡ 2 ^ last + t
  pub below : t < 2 ^ last

-- one set at a word's left side, and another at its right side
abbrev pub sided : Entry → Entry → ℕ → Bool
sided one two q = bit q one.row.left && bit q two.row.right

-- no user acts in both, or the word is one of those where that does not matter
abbrev pub allowed : ℕ → Entry → Entry → ℕ → Bool
allowed anyone one two q = eqb (bit_and one.users two.users) 0 || bit q anyone

-- both
abbrev pub sided_apart : ℕ → Entry → Entry → ℕ → Bool
sided_apart anyone one two q = sided one two q && allowed anyone one two q

-- both, where the words count: at those of `joint`, or of `anyone` where a user acts in both
abbrev pub sided_in : ℕ → ℕ → Entry → Entry → ℕ → Bool
sided_in joint anyone one two q = sided one two q && bit q (cond (eqb (bit_and one.users two.users) 0) joint anyone)

-- the digits of two sets, either way, come to those that there are
pub record Adds (f : Entry → Entry → ℕ → Bool) (one two : Entry) (has has' : ℕ → Bool) : Type 0 where
  pub each : (q : ℕ) → has' q ≡ (has q || (f one two q || f two one q))

-- so it is by each call
pub record Gathers {A : Type 0} (post : A → Entry → Entry → A → Type 0) (has : A → ℕ → Bool) (f : Entry → Entry → ℕ → Bool) : Type 0 where
  pub adds : (a r : A) (one two : Entry) → post a one two r → Adds f one two (has a) (has r)

-- the part x of s, and the rest
abbrev pub matched : List Entry → ℕ → ℕ → ℕ → Bool
matched sets s x q = sided (entry_at sets x) (entry_at sets (s - x)) q

abbrev pub matched_apart : List Entry → ℕ → ℕ → ℕ → ℕ → Bool
matched_apart sets anyone s x q = sided_apart anyone (entry_at sets x) (entry_at sets (s - x)) q

-- both, at the words of `joint`
abbrev pub jointly : ℕ → ℕ → List Entry → ℕ → ℕ → ℕ → Bool
jointly joint anyone sets s x q = bit q joint && matched_apart sets anyone s x q

-- ── a row from its own digits ──
-- each right side begins behind its word
pub record Ascending (places : List ℕ) : Type 0 where
  pub short : length places ≤ 31
  pub behind : (i : ℕ) → i < length places → i < get_or places i 0
  pub inside : (i : ℕ) → i < length places → get_or places i 0 < 32

-- the first n of `ops` are the operators among the first w words: each as its place and, times 32, how far behind it its right side begins
pub data Listing (either both : ℕ) (places ops : List ℕ) : ℕ → ℕ → Type 0 where
  no_words : Listing either both places ops 0 0
  skips : (n w : ℕ) → Listing either both places ops n w → bit_and (bit_or either both) (4294967297 * 2 ^ w) ≡ 0 → Listing either both places ops n (suc w)
  lists : (n w : ℕ) → Listing either both places ops n w → get_or ops n 0 ≡ w + 32 * (get_or places w 0 - w) → Listing either both places ops (suc n) (suc w)

-- each is a place and a distance below 32
abbrev pub Coded : List ℕ → Type 0
Coded ops = (j : ℕ) → j < length ops → get_or ops j 0 < 1024

-- the first n of `ops` are the operators among all words
pub record Operators (either both : ℕ) (places ops : List ℕ) (n : ℕ) : Type 0 where
  pub bound : n ≤ 31
  pub listing : Listing either both places ops n (length places)
  pub coded : (j : ℕ) → j < n → get_or ops j 0 < 1024

-- word i of a column by its sides, which stand at words 1 + i and k
abbrev pub by_sides : Bool → ℕ → ℕ → ℕ → ℕ → ℕ → Bool
by_sides e row either both i k =
    (bit (place e i) either && (bit (place e (1 + i)) row || bit (place e k) row))
    || (bit (place e i) both && (bit (place e (1 + i)) row && bit (place e k) row))

-- every word of a row agrees with its sides, and `right` has the digits of the right sides
pub record Finished (base either both : ℕ) (places : List ℕ) (row right : ℕ) : Type 0 where
  pub rule : (e : Bool) (i : ℕ) → i < length places → bit (place e i) row ≡ (bit (place e i) base || by_sides e row either both i (get_or places i 0))
  pub past : (e : Bool) (i : ℕ) → length places ≤ i → i < 32 → bit (place e i) row ≡ bit (place e i) base
  pub sided : (e : Bool) (i : ℕ) → i < length places → So (bit (place true i) either) → bit (place e i) right ≡ bit (place e (get_or places i 0)) row

-- ── twins ──
-- r has places before j, at which stands the action of place j
pub record AlikePlaces (l : List Action) (j r : ℕ) : Type 0 where
  pub below : r < 2 ^ j
  pub same : (k : ℕ) → So (bit k r) → (k < j) × (get_or l k (record { user = 0; met = 0 }) ≡ get_or l j (record { user = 0; met = 0 }))

-- the set of t and the action of place j, where top is 2^j; that action with `twin`; or t with an action alike it that t lacks
pub data Twin (alike top t twin : ℕ) : ℕ → Type 0 where
  itself : Twin alike top t twin (top + t)
  other_set : twin < t → Twin alike top t twin (top + twin)
  other_action : (k : ℕ) → So (bit k alike) → bit k t ≡ false → Twin alike top t twin (2 ^ k + t)

-- ── what stands in the table ──
-- the masks and the operators are those of the policy φ
pub record Suited (φ : Term) (m : Masks) (ops : List ℕ) : Type 0 where
  pub formed : So (well_formed φ)
  pub short : size φ ≤ 31
  pub masked : Masked (term_shape φ) m
  pub listed : Listing m.either m.both (right_sides 0 φ) ops (length ops) (size φ)

-- the users of a list of actions, as a mask, and the unit terms that all of them met
abbrev pub Acting : List Action → ℕ → Type 0
Acting l users = (u : ℕ) → bit u users ≡ acts (λ a. a.user) u l

abbrev pub Noted : List Action → ℕ → Type 0
Noted l met = (i : ℕ) → i < 32 → bit i met ≡ all (λ a. bit i a.met) l

-- the digits at the right sides of together and apart
abbrev pub Rights : Term → List Action → ℕ → Type 0
Rights φ l right =
    (e : Bool) (i : ℕ) → i < size φ → So (is_op together (term_at φ i) || is_op apart (term_at φ i))
    → bit (place e i) right ≡ judged e φ l (get_or (right_sides 0 φ) i 0)

-- the row of a list of actions
pub record RowIs (φ : Term) (l : List Action) (row right : ℕ) : Type 0 where
  pub here : (e : Bool) (i : ℕ) → i < size φ → bit (place e i) row ≡ judged e φ l i
  pub past : (e : Bool) (i : ℕ) → size φ ≤ i → i < 32 → bit (place e i) row ≡ false
  pub sided : Rights φ l right

-- what a set's part is asked for: its row at the words' left sides, which has the whole column of possible, and at the right sides of
-- together and apart, and its users
pub record Sides (φ : Term) (l : List Action) (left right users : ℕ) : Type 0 where
  pub lefts : (e : Bool) (i : ℕ) → 1 + i < size φ → bit (place e i) left ≡ judged e φ l (1 + i)
  pub possible : (i : ℕ) → i < size φ → bit (31 + i) left ≡ judged true φ l i
  pub rights : Rights φ l right
  pub acting : Acting l users

-- of the set x of the actions l
abbrev pub SidesAt : Term → List Action → List Entry → ℕ → Type 0
SidesAt φ l sets x = Sides φ (select x l) (left_at sets x) (right_at sets x) (users_at sets x)

-- what a row must be, whatever the policy and the actions
abbrev pub RowOf : Masks → List ℕ → List Entry → ℕ → ℕ → ℕ → ℕ → Type 0
RowOf m ops sets met s row row-right =
    (φ : Term) (l : List Action) → Suited φ m ops → s < 2 ^ length l → ((x : ℕ) → x < s → SidesAt φ l sets x) → Noted (select s l) met
    → RowIs φ (select s l) row row-right

-- what stands in the table for the set x of the actions l
pub record IsEntry (φ : Term) (l : List Action) (x : ℕ) (r : Entry) : Type 0 where
  pub sides : Sides φ (select x l) r.row.left r.row.right r.users
  pub noted : Noted (select x l) r.met
  pub twin : Perm (select r.twin l) (select x l)
  pub earlier : r.twin ≤ x
  pub satisfied : satisfied_in r.row.left ≡ row_of false φ l x
  pub possible : possible_in r.row.left ≡ row_of true φ l x

abbrev pub Known : Term → List Action → List Entry → ℕ → Type 0
Known φ l sets n = (x : ℕ) → x < n → IsEntry φ l x (entry_at sets x)

-- so it must be for the empty set, whatever the policy and the actions
abbrev pub EmptyEntry : Masks → List ℕ → Entry → Type 0
EmptyEntry m ops r = (φ : Term) (l : List Action) → Suited φ m ops → IsEntry φ l 0 r

-- what is stored of the row of the set s
pub record StoredIs (φ : Term) (l : List Action) (s : ℕ) (r : Stored) : Type 0 where
  pub sides : (users : ℕ) → Acting (select s l) users → Sides φ (select s l) r.left r.right users
  pub satisfied : satisfied_in r.left ≡ row_of false φ l s
  pub possible : possible_in r.left ≡ row_of true φ l s

-- so it must be where all sets before s are entered and `twin` has the actions of s
abbrev pub StoredOf : Masks → List ℕ → List Entry → ℕ → ℕ → ℕ → Stored → Type 0
StoredOf m ops sets met s twin r =
    (φ : Term) (l : List Action) → Suited φ m ops → s < 2 ^ length l → Known φ l sets s → Noted (select s l) met → Perm (select twin l) (select s l) → StoredIs φ l s r

-- the set s is entered too: its users are `who`, its actions all met `met`, and they are those of `twin`
abbrev pub Entered : Masks → List ℕ → ℕ → ℕ → ℕ → ℕ → List Entry → List Entry → Type 0
Entered m ops s who met twin sets sets' =
    (φ : Term) (l : List Action) → Suited φ m ops → s < 2 ^ length l → Acting (select s l) who → Noted (select s l) met → Perm (select twin l) (select s l)
    → Known φ l sets s → Known φ l sets' (s + 1)

-- where the sets of the actions l are entered, so are those with one action more
abbrev pub Added : Masks → List ℕ → List Action → Action → List Entry → List Entry → Type 0
Added m ops l a sets sets' = (φ : Term) → Suited φ m ops → Known φ l sets (2 ^ length l) → Known φ (l ++ (a ∷ [])) sets' (2 ^ (length l + 1))

-- the sets below n of the actions l are entered
abbrev pub AddedAll : Masks → List ℕ → List Action → ℕ → List Entry → Type 0
AddedAll m ops l n sets = (φ : Term) → Suited φ m ops → Known φ l sets n

-- the first n words are zero, and the others stay
pub record Cleared (n : ℕ) (before after : List ℕ) : Type 0 where
  pub zeros : (k : ℕ) → k < n → get_or after k 0 ≡ 0
  pub stay : (k : ℕ) → n ≤ k → get_or after k 0 ≡ get_or before k 0

-- the workspace stays but for the words of the sets below n
pub record Kept (n : ℕ) (before after : List ℕ) : Type 0 where
  pub low : (k : ℕ) → n ≤ k → k < 4096 → get_or after k 0 ≡ get_or before k 0
  pub high : (k : ℕ) → 4096 + n ≤ k → get_or after k 0 ≡ get_or before k 0

-- the rows of the sets below n are written to the workspace, which keeps its other words
pub record Written (n : ℕ) (sets : List Entry) (before after : List ℕ) : Type 0 where
  pub satisfied : (x : ℕ) → x < n → get_or after x 0 ≡ satisfied_in (left_at sets x)
  pub possible : (x : ℕ) → x < n → get_or after (4096 + x) 0 ≡ possible_in (left_at sets x)
  pub kept : Kept n before after

-- the workspace has the rows of the sets below n, and keeps its other words
pub record RowsStand (m : Masks) (ops : List ℕ) (l : List Action) (n : ℕ) (before after : List ℕ) : Type 0 where
  pub satisfied : (φ : Term) → Suited φ m ops → (x : ℕ) → x < n → get_or after x 0 ≡ row_of false φ l x
  pub possible : (φ : Term) → Suited φ m ops → (x : ℕ) → x < n → get_or after (4096 + x) 0 ≡ row_of true φ l x
  pub kept : Kept n before after

-- the shape is that of a well-formed term of at most 31 words
pub record Shaped (p : Shape) : Type 0 where
  pub term : Term
  pub is : p ≡ term_shape term
  pub formed : So (well_formed term)
  pub short : size term ≤ 31

-- ── users tried ──
-- r is u, or a user above u who meets the same, where neither has acted
pub data Like (met : List ℕ) (acted u : ℕ) : ℕ → Type 0 where
  itself : Like met acted u u
  another : {v : ℕ} → u < v → v < length met → get_or met v 0 ≡ get_or met u 0 → bit u acted ≡ false → bit v acted ≡ false → Like met acted u v

-- r has the users of a mask, and u if so
abbrev pub Marked : ℕ → ℕ → Bool → ℕ → Type 0
Marked users u b r = (v : ℕ) → bit v r ≡ (bit v users || (eqb v u && b))

-- whether the actions with one more by user u are possible, bit v for each user v above u known; and the table still has their sets
abbrev pub Judges : Masks → List ℕ → List Action → List ℕ → ℕ → ℕ → ℕ → List Entry → List Entry → Bool → Type 0
Judges m ops l met acted tried u sets sets' r =
    (φ : Term) → Suited φ m ops → Acting l acted → Known φ l sets (2 ^ length l)
    → ((v : ℕ) → u < v → v < length met → bit v tried ≡ possible φ 0 (l ++ (action_by met v ∷ [])))
    → (r ≡ possible φ 0 (l ++ (action_by met u ∷ []))) × Known φ l sets' (2 ^ length l)

-- the same by a trial
abbrev pub Tries : Masks → List ℕ → List Action → Action → List Entry → List Entry → Bool → Type 0
Tries m ops l a sets sets' r = (φ : Term) → Suited φ m ops → Known φ l sets (2 ^ length l) → (r ≡ possible φ 0 (l ++ (a ∷ []))) × Known φ l sets' (2 ^ length l)

-- the last action is by the last of the users, if there are any
abbrev pub LastActs : List Action → List ℕ → Type 0
LastActs l met = 0 < length met → (0 < length l) × (get_or l (length l - 1) (record { user = 0; met = 0 }) ≡ action_by met (length met - 1))

-- the users who can act in place of the last action
abbrev pub TriesEach : Masks → List ℕ → List Action → List ℕ → ℕ → Type 0
TriesEach m ops l met r = (φ : Term) → Suited φ m ops → LastActs l met → r ≡ can_act φ (take (length l - 1) l) met

-- the workspace is filled, and users are tried so; where it is not filled, nobody is
pub record FillsTrying (words : List ℕ) (l : List Action) (met before : List ℕ) (r : ℕ) (after : List ℕ) : Type 0 where
  pub workspace : after ≡ fill_of words l (length l) before
  pub users : LastActs l met → r ≡ cond (is_filled words l (length l) before) (can_act (term_of (decode words)) (take (length l - 1) l) met) 0
