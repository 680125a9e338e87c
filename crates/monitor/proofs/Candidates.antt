-- What the trials of the candidates give.
use mathlib.Core.Path.{◌≡◌, refl, sym, ◌∙◌, ap, ap₂, subst}
use mathlib.Core.Logic.{◌⊎◌, inl, inr}
use mathlib.Core.Bool.{Bool, true, false, So, ◌&&◌, cond, and-true, and-false}
use mathlib.Core.List.{List, [], ◌∷◌, ◌++◌, map}
use Prim.Native.Nat.{ℕ, suc, ◌-◌, ◌≤◌, ◌<◌}
use native.Mathlib.Omega.{arith}
use lib.Bits.{bit_and, and_zero_l}
use lib.Dec.{leb, ltb}
use lib.ListN.{length, get_or, take, length-map}
use lib.Seq.{get_or-take, length-take-le}
use borrow.Author.Tests.{le-leb, leb-true, le-ltb}
use Rattle.soda.specs.Bits.{number}
use Rattle.soda.specs.Lists.{range}
use Rattle.soda.specs.Tables.{possible}
use Rattle.soda.specs.Workflows.{is_somewhere}
use Rattle.soda.proofs.Bools.{by_test, lt_or_le}
use Rattle.soda.proofs.Lists.{range_length, map_below, map_same}
use Rattle.units.specs.Units.{met_of, met_each}
use Rattle.units.proofs.Units.{each-is_met}
use Rattle.workspace.specs.Workspace.{is_filled, filled}
use Rattle.workspace.specs.Trials.{action_by, can_act, Trials, trials_of}
use Rattle.configuration.specs.declared.Configuration.{Configuration}
use Rattle.instance.specs.declared.Instance.{Instance}
use Rattle.configuration.specs.declared.Candidates.{Candidates}
use Rattle.instance.specs.Instances.{policy_of, taken_of, term, noted_for}
use Rattle.instance.specs.Steps.{leads_to}
use Rattle.configuration.specs.Permitted.{behind_last, gathered}
use Rattle.instance.specs.Candidates.{is_candidate, candidates_of}
use Rattle.configuration.proofs.Gathering.{behind_most, before_last, is_last, number_short, behind-short, number-and}
use Rattle.monitor.specs.Events.{tried}
use Rattle.monitor.specs.Private.{each_tried}

-- ── the trials ──
-- of the first k users: what is noted for a user, as the trials are given it
module _ (c : Configuration) (i : Instance) (k : ℕ) (few : k ≤ 16) (within : k ≤ length c.user_roles) (each : List ℕ) (long : k ≤ length each)
    (is : each ≡ met_each (policy_of i) (take k c.user_roles)) where
  rows-length : length (take k c.user_roles) ≡ k
  rows-length = length-take-le k c.user_roles within

  mets_length : length (take k each) ≡ k
  mets_length = length-take-le k each long

  noted_by_lem : (u : ℕ) → u < k → action_by (take k each) u ≡ noted_for c i u
  noted_by_lem u h = ap (λ n. record { user = u; met = n })
      (get_or-take k each u 0 h ∙ ap (λ l. get_or l u 0) is
      ∙ each-is_met (policy_of i) (take k c.user_roles) u (omega (arith, rows-length)) (omega (arith, rows-length))
      ∙ ap (met_of (policy_of i) u) (get_or-take k c.user_roles u 0 h))

  can_act_is : can_act (term i) (taken_of i) (take k each) ≡ number (map (λ u. possible (term i) 0 (tried c i u)) (range 0 k))
  unfolding can_act
  can_act_is =
      ap (λ n. number (map (λ u. possible (term i) 0 (taken_of i ++ (action_by (take k each) u ∷ []))) (range 0 n))) mets_length
      ∙ ap number (map_same false k (λ u. possible (term i) 0 (taken_of i ++ (action_by (take k each) u ∷ []))) (λ u. possible (term i) 0 (tried c i u))
      (λ u h. ap (λ a. possible (term i) 0 (taken_of i ++ (a ∷ []))) (noted_by_lem u h)))

  module _ (before : List ℕ) (fills : So (is_filled (policy_of i) i.actions i.taken before)) where
    abbrev none : Trials
    none = record { mask = 0; workspace = before }

    abbrev tested : Bool
    tested = ltb i.taken 12 && leb 1 k

    abbrev first_tried : Trials
    first_tried = record { mask = number (map (λ u. possible (term i) 0 (tried c i u)) (range 0 k)); workspace = filled (term i) (tried c i (k - 1)) before }

    trials_are : (t : Trials) → t ≡ trials_of (policy_of i) i.actions i.taken (take k each) before → t ≡ cond tested first_tried none
    unfolding trials_of
    trials_are t e = e ∙ ap (λ b. cond b yes none) test ∙ by_test (leb 1 k) somebody (λ f. rw f (neither (ltb i.taken 12)))
      where
        yes : Trials
        yes = record {
          mask = can_act (term i) (taken_of i) (take k each);
          workspace = filled (term i) (taken_of i ++ (action_by (take k each) (length (take k each) - 1) ∷ [])) before;
        }

        test : ((ltb i.taken 12 && (leb 1 (length (take k each)) && leb (length (take k each)) 16)) && is_filled (policy_of i) i.actions i.taken before) ≡ tested
        test = rw (mets_length, le-leb k 16 few, fills) (and-true (ltb i.taken 12 && (leb 1 k && true)) ∙ ap (λ b. ltb i.taken 12 && b) (and-true (leb 1 k)))

        last : 1 ≤ k → yes.workspace ≡ filled (term i) (tried c i (k - 1)) before
        last some = ap (λ n. filled (term i) (taken_of i ++ (action_by (take k each) (n - 1) ∷ [])) before) mets_length
            ∙ ap (λ a. filled (term i) (taken_of i ++ (a ∷ [])) before) (noted_by_lem (k - 1) (omega arith))

        somebody : leb 1 k ≡ true → cond tested yes none ≡ cond tested first_tried none
        somebody h = ap₂ (λ m w. cond tested (record { mask = m; workspace = w }) none) can_act_is (last (leb-true 1 k h))

        neither : (b : Bool) → cond (b && false) yes none ≡ cond (b && false) first_tried none
        neither true = refl
        neither false = refl

-- ── the candidates ──
module _ (c : Configuration) (i : Instance) (a : ℕ) where
  abbrev candidate : ℕ → Bool
  candidate = is_candidate c i a

  abbrev digits : List Bool
  digits = map candidate (range 0 c.users)

  -- the place behind the last
  abbrev pub behind : ℕ
  behind = behind_last digits

  declared_alone : (u : ℕ) → c.users ≤ u → candidate u ≡ false
  declared_alone u h = rw (le-ltb u c.users h) (and-false (is_somewhere (leads_to i a)))

  pub behind-declared : behind ≤ c.users
  behind-declared = omega (arith, behind_most digits, length-map (range 0 c.users) candidate, range_length 0 c.users)

  -- nobody is one past the last
  pub past : (u : ℕ) → behind ≤ u → candidate u ≡ false
  past u h = by (lt_or_le u c.users)
    where
      by : (u < c.users) ⊎ (c.users ≤ u) → candidate u ≡ false
      by (inl l) = by_test (candidate u) (λ t. absurd (omega (arith, h, before_last digits u (map_below candidate false c.users u l ∙ t)))) (λ f. f)
      by (inr g) = declared_alone u g

  pub last-is : (j : ℕ) → behind ≡ suc j → So (candidate j)
  last-is j e = sym (map_below candidate false c.users j (omega (arith, e, behind-declared))) ∙ is_last digits j e

  abbrev possible_for : ℕ → Bool
  possible_for u = possible (term i) 0 (tried c i u)

  abbrev pub can_act_lem : ℕ → Bool
  can_act_lem u = candidate u && possible_for u

  -- of the first ones that can act, those who are candidates
  masked : bit_and (number (map possible_for (range 0 behind))) (number digits) ≡ number (map can_act_lem (range 0 c.users))
  masked =
      ap (bit_and (number (map possible_for (range 0 behind)))) (number_short candidate 0 behind c.users behind-declared (λ u l. past u (omega arith)))
      ∙ number-and possible_for candidate (range 0 behind)
      ∙ sym (number_short can_act_lem 0 behind c.users behind-declared (λ u l. ap (λ b. b && possible_for u) (past u (omega arith))))

  -- each candidate tried, where k is the place behind the last
  abbrev pub tried_to : ℕ → List ℕ → Trials
  tried_to k before = cond (ltb i.taken 12 && leb 1 k)
      (record { mask = number (map can_act_lem (range 0 c.users)); workspace = filled (term i) (tried c i (k - 1)) before })
      (record { mask = 0; workspace = before })

  module _ (few : behind ≤ 16) (within : behind ≤ length c.user_roles) (each : List ℕ) (long : behind ≤ length each)
      (is : each ≡ met_each (policy_of i) (take behind c.user_roles)) (before : List ℕ) (fills : So (is_filled (policy_of i) i.actions i.taken before)) where
    candidates_tried : (t : Trials) → t ≡ trials_of (policy_of i) i.actions i.taken (take behind each) before
        → record { mask = bit_and t.mask (number digits); workspace = t.workspace } ≡ tried_to behind before
    candidates_tried t e = ap among (trials_are c i behind few within each long is before fills t e) ∙ by (tested c i behind few within each long is before fills)
      where
        among : Trials → Trials
        among x = record { mask = bit_and x.mask (number digits); workspace = x.workspace }

        first : Trials
        first = first_tried c i behind few within each long is before fills

        nobody : Trials
        nobody = record { mask = 0; workspace = before }

        by : (b : Bool) → among (cond b first nobody)
            ≡ cond b (record { mask = number (map can_act_lem (range 0 c.users)); workspace = filled (term i) (tried c i (behind - 1)) before }) nobody
        by true = ap (λ n. record { mask = n; workspace = filled (term i) (tried c i (behind - 1)) before }) masked
        by false = ap (λ n. record { mask = n; workspace = before }) (and_zero_l (number digits))

  -- they are found among the sixteen users whose rows there are
  module _ (few : c.users ≤ 16) where
    are-found : candidates_of c i a ≡ gathered digits
    unfolding candidates_of
    are-found =
        ap₂ (λ n k. record { users = n; behind = k })
        (number_short candidate 0 c.users 16 few (λ u l. declared_alone u (omega arith)))
        (behind-short candidate 0 c.users 16 few (λ u l. declared_alone u (omega arith)))

    pub each-tried : (before : List ℕ) → each_tried c i a before ≡ tried_to behind before
    each-tried before = ap (λ (r : Candidates). tried_to r.behind before) are-found

    abbrev Tried : Candidates → Type 0
    Tried r =
        (within : r.behind ≤ length c.user_roles) (each : List ℕ) → r.behind ≤ length each → each ≡ met_each (policy_of i) (take r.behind c.user_roles)
        → (before : List ℕ) → So (is_filled (policy_of i) i.actions i.taken before)
        → (t : Trials) → t ≡ trials_of (policy_of i) i.actions i.taken (take r.behind each) before
        → record { mask = bit_and t.mask r.users; workspace = t.workspace } ≡ each_tried c i a before

    behind-few : behind ≤ 16
    behind-few = omega (arith, behind-declared, few)

    all-tried : Tried (gathered digits)
    all-tried within each long is before fills t e = candidates_tried behind-few within each long is before fills t e ∙ sym (each-tried before)

    module _ (r : Candidates) (e : r ≡ candidates_of c i a) where
      pub found-few : r.behind ≤ 16
      found-few = subst (λ (x : Candidates). x.behind ≤ 16) (sym (e ∙ are-found)) behind-few

      pub found-tried : Tried r
      found-tried = subst Tried (sym (e ∙ are-found)) all-tried
