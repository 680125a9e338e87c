-- The workspace (document 01: work room): for each set of actions, which terms of the policy it satisfies and which are possible.
use Rattle.std.specs.Prelude.{◌≡◌, Bool, true, false, ◌&&◌, cond, List, [], ◌∷◌, ◌++◌, map, ℕ, ◌+◌, ◌-◌, ◌/◌, ◌^◌, ◌≤◌, ◌<◌, leb, ltb, length, get_or, take, drop, replicate}
use Rattle.std.proofs.Math.Bool.{So}
use Rattle.std.proofs.Math.Option.{Option, some, none}
use Rattle.soda.specs.Bits.{bit, number}
use Rattle.soda.specs.Lists.{all, range}
use Rattle.soda.specs.Terms.{Term, well_formed, size, term_at}
use Rattle.soda.specs.Tables.{bit_table, satisfied, possible}
use Rattle.policy.specs.Words.{decode, term_of}
use Rattle.policy.specs.Reading.{length_ok}
use Rattle.policy.specs.Accepted.{IsPolicy}
use Rattle.soda.specs.declared.Action.{Action}

-- the actions of the set with mask s: bit j for the one at place j, from 0
abbrev pub select {ℓ} : {A : Type ℓ} → ℕ → List A → List A
select s [] = []
select s (a ∷ l) = cond (bit 0 s) (a ∷ select (s / 2) l) (select (s / 2) l)

-- whether a set of actions satisfies the term at word i of the policy φ (e is false), or is possible for it (e is true)
unfoldable pub judged : Bool → Term → List Action → ℕ → Bool
judged e φ s i = bit_table (λ a. a.user) (λ a. a.met) e (term_at φ i) i s

-- one word of the workspace: bit i for the term at word i; bits past the policy are zero
unfoldable pub row_of : Bool → Term → List Action → ℕ → ℕ
row_of e φ l s = number (map (judged e φ (select s l)) (range 0 (size φ)))

-- word s for s below 2^n, for n actions; zeros up to 4,096 words
unfoldable pub column : Bool → Term → List Action → List ℕ
column e φ l = map (row_of e φ l) (range 0 (2 ^ length l)) ++ replicate (4096 - 2 ^ length l) 0

-- the 8,192 words: satisfied, then possible from word 4,096 on
unfoldable pub table_of : Term → List Action → List ℕ
table_of φ l = column false φ l ++ column true φ l

-- words from 8,192 on keep what they had
unfoldable pub filled : Term → List Action → List ℕ → List ℕ
filled φ l workspace = table_of φ l ++ drop 8192 workspace

-- The fill is a helper that crates share, so it is total: it fills for words that are a well-formed term, at most twelve actions
-- by users below 16, and a workspace long enough; else it leaves the workspace as it was.
abbrev pub is_fillable : Option Term → List Action → List ℕ → Bool
is_fillable none l workspace = false
is_fillable (some φ) l workspace = well_formed φ && (all (λ a. ltb a.user 16) l && leb 8192 (length workspace))

unfoldable pub is_filled : List ℕ → List Action → ℕ → List ℕ → Bool
is_filled words actions n workspace = length_ok (length words) && (leb n 12 && is_fillable (decode words) (take n actions) workspace)

unfoldable pub fill_of : List ℕ → List Action → ℕ → List ℕ → List ℕ
fill_of words actions n workspace = cond (is_filled words actions n workspace) (filled (term_of (decode words)) (take n actions) workspace) workspace

-- ── what is proved of it ──
-- It fills for an accepted policy, at most twelve actions by users below 16, and a workspace that is long enough.
abbrev pub PolicyIsFilled : Type 0
PolicyIsFilled =
    (users roles : ℕ) (words : List ℕ) (φ : Term) (actions : List Action) (n : ℕ) (workspace : List ℕ)
    → IsPolicy users roles words φ → n ≤ 12 → So (all (λ a. ltb a.user 16) (take n actions)) → 8192 ≤ length workspace
    → fill_of words actions n workspace ≡ filled φ (take n actions) workspace

-- Of at most twelve actions, word s of a filled workspace is the row of the set with mask s, and word 4,096 + s its row for possible ..
abbrev pub WordIsRow : Type 0
WordIsRow =
    (φ : Term) (l : List Action) (workspace : List ℕ) (s : ℕ) → length l ≤ 12 → s < 2 ^ length l
    → (get_or (filled φ l workspace) s 0 ≡ row_of false φ l s) × (get_or (filled φ l workspace) (4096 + s) 0 ≡ row_of true φ l s)

-- .. and bit i of a row says what is judged of the term at word i.
abbrev pub BitIsJudged : Type 0
BitIsJudged = (e : Bool) (φ : Term) (l : List Action) (s i : ℕ) → i < size φ → bit i (row_of e φ l s) ≡ judged e φ (select s l) i

-- So bit 0 of the word at the mask of all actions says whether they satisfy the policy, and 4,096 words on whether they are possible.
abbrev pub WholeIsRead : Type 0
WholeIsRead =
    (φ : Term) (l : List Action) (workspace : List ℕ) → length l ≤ 12
    → (bit 0 (get_or (filled φ l workspace) (2 ^ length l - 1) 0) ≡ satisfied φ 0 l)
    × (bit 0 (get_or (filled φ l workspace) (4096 + (2 ^ length l - 1)) 0) ≡ possible φ 0 l)
