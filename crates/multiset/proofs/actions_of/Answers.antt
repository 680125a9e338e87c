-- A turn adds the user's own actions; at the end nobody is left.
use Rattle.std.proofs.Common.{◌≡◌, ℕ, ◌+◌, ◌-◌, ◌≤◌, ◌<◌, List, ◌∷◌, ◌++◌, map, length, get_or, take, drop, replicate, refl, sym, ap, ◌∙◌, add-one, arith}
use Rattle.std.proofs.lemmas.Slice.{take-put_mid}
use borrow.Rule.Slice.PartMut.{put_mid, same_len_mid}
use mathlib.Core.List.{append_assoc, append-nil}
use native.Mathlib.Nat.{add-zero}
use lib.ListN.{length-replicate, length-drop}
use lib.Seq.{drop-cons, length-take-le}
use Rattle.soda.specs.Roles.{roles}
use Rattle.soda.specs.declared.Action.{Action}
use Rattle.instance.specs.Instances.{noted}
use Rattle.multiset.specs.MultisetTest.{total, listed}
use Rattle.multiset.proofs.Listed.{listed-none, listed_next}
use Rattle.multiset.proofs.actions_of.Goals as goal
use Rattle.multiset.proofs.actions_of.Goals.{then-n-ne0, else-n-ne0}

-- what is noted of a user
abbrev note : List ℕ → List ℕ → ℕ → Action
note words rows u = noted words u (roles rows u)

-- the first t places, n more of them with this action, are now the first e
record Added (l : List Action) (t n : ℕ) (x : Action) (m : List Action) (e : ℕ) : Type 0 where
  number : e ≡ t + n
  long : length m ≡ 12
  behind : take e m ≡ take t l ++ replicate n x

none_added : (l : List Action) (t : ℕ) (x : Action) → length l ≡ 12 → Added l t 0 x l t
none_added l t x h = record { number = sym (add-zero t); long = h; behind = sym (append-nil (take t l)) }

some_added : (l : List Action) (t n : ℕ) (x : Action) (ys : List Action) → length l ≡ 12 → t + n ≤ 12 → ys ≡ replicate (length (take (t + n - t) (drop t l))) x
    → Added l t n x (put_mid t (t + n - t) l ys) (t + n)
some_added l t n x ys h k e =
    let size : length (take (t + n - t) (drop t l)) ≡ n = length-take-le (t + n - t) (drop t l) (omega (arith, h, length-drop t l)) ∙ omega arith in
    let same : ys ≡ replicate n x = e ∙ ap (λ (m : ℕ). replicate m x) size in
    let many : length ys ≡ n = ap (λ (m : List Action). length m) same ∙ length-replicate n x in
    record {
      number = refl;
      long = same_len_mid t (t + n - t) l ys (many ∙ sym size) ∙ h;
      behind = take-put_mid t (t + n - t) l ys (t + n) (omega (arith, many)) (omega (arith, h)) ∙ ap (λ (r : List Action). take t l ++ r) same;
    }

-- the counts from a user on: the user's own, then the others'
counts_next : (counts : List ℕ) (u : ℕ) → u < length counts → drop u counts ≡ get_or counts u 0 ∷ drop (u + 1) counts
counts_next counts u h = rw add-one (drop-cons counts u 0 h)

pub loop-user-preserved : goal.loop-user-preserved
loop-user-preserved c =
    let a = c.args in
    let l = c.loop-user in
    let u = l.user in
    let f : ℕ → Action = note a.words.now a.rows.now in
    let n : ℕ = get_or a.counts u 0 in
    let rest : List ℕ = drop (u + 1) a.counts in
    let own : List Action = replicate n (f u) in
    let next = counts_next a.counts u (omega (arith, c.requires.rows_most)) in
    let numbers : l.taken + (n + total rest) ≡ total a.counts = rw next at l.invariant.2 in
    let added : Added l.actions l.taken n (f u) c.if-n-ne0.actions c.if-n-ne0.taken =
    elim c.if-n-ne0.branch [
      | then-n-ne0 w ↦
          let own_action : w.new.result ≡ f u = w.new.ensures ∙ ap (λ (m : ℕ). record { user = u; met = m }) w.met-met.ensures in
          let filled = w.fill.ensures.after (λ y e. e) ∙ ap (λ (x : Action). replicate (length (take (l.taken + n - l.taken) (drop l.taken l.actions))) x) own_action in
          rw (w.actions-is, w.taken-is) (some_added l.actions l.taken n (f u) w.fill.new.self l.invariant.1 (omega (arith, numbers, c.requires.few)) filled)
      | else-n-ne0 w ↦
          rw (w.actions-is, w.taken-is, w.if-n-ne0.false) (none_added l.actions l.taken (f u) l.invariant.1)
    ] in (
      omega arith,
      added.long,
      omega (arith, numbers, added.number),
      ap (λ (s : List Action). s ++ map f (listed (u + 1) rest)) added.behind
          ∙ append_assoc (take l.taken l.actions) own (map f (listed (u + 1) rest))
          ∙ ap (λ (v : ℕ). take l.taken l.actions ++ (own ++ map f (listed v rest))) (add-one u)
          ∙ ap (λ (s : List Action). take l.taken l.actions ++ s) (sym (listed_next f u n rest))
          ∙ (rw next at l.invariant.3),
    )

pub returns : goal.returns
returns c =
    let a = c.args in
    let l = c.loop-user in
    let f : ℕ → Action = note a.words.now a.rows.now in
    let last : l.user ≡ length a.rows.now = omega arith in
    let zero : total (drop l.user a.counts) ≡ 0 = ap (λ (n : ℕ). total (drop n a.counts)) last ∙ c.requires.declared in
    let all : total a.counts ≡ l.taken = omega (arith, zero, l.invariant.2) in
    ap (λ (n : ℕ). take n l.actions) all
    ∙ sym (append-nil (take l.taken l.actions))
    ∙ ap (λ (s : List ℕ). take l.taken l.actions ++ map f s) (sym (listed-none l.user (drop l.user a.counts) zero))
    ∙ l.invariant.3
