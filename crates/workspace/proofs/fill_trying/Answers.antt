-- Each test that fails leaves the workspace as it was, and nobody is tried; behind the last the words are a term, and its shape is filled by.
use Rattle.std.proofs.Common.{◌≡◌, List, ℕ, sym, ◌∙◌, ap, length, rules}
use lib.Seq.{take-length}
use Rattle.workspace.proofs.Fillable.{users_ok as users, Readable, readable, is_shaped, too_many, unknown_user, too_short, no_policy, can_fill, untouched, fills_trying}
use Rattle.workspace.proofs.fill_trying.Goals as goal

pub returns-then-actions-gt12 : goal.returns-then-actions-gt12
returns-then-actions-gt12 c = untouched _ _ _ _ (too_many _ _ _ _ c.if-actions-gt12.true)

pub returns-then-not-users_ok : goal.returns-then-not-users_ok
returns-then-not-users_ok c = untouched _ _ _ _ (unknown_user _ _ _ _ (ap users (take-length c.args.actions.now) ∙ sym c.users_ok.ensures ∙ c.if-not-users_ok.true))

pub returns-then-workspace-lt8192 : goal.returns-then-workspace-lt8192
returns-then-workspace-lt8192 c = untouched _ _ _ _ (too_short _ _ _ _ c.if-workspace-lt8192.true)

pub returns-in_default : goal.returns-in_default
returns-in_default c = untouched _ _ _ _ (no_policy _ _ _ _ c.in_default.ensures)

pub invariant_of-taken : goal.invariant_of-taken
invariant_of-taken c = record { few = search rules; known = sym c.users_ok.ensures ∙ c.if-not-users_ok.false; users = c.requires }

pub fill_by-requires : goal.fill_by-requires
fill_by-requires c = (is_shaped (readable c.args.words.now c.in-Some.shape c.in-Some.ensures) c.in-Some.ensures (search rules), search rules)

pub returns : goal.returns
unfolding is_shaped
returns c =
    let a = c.args in
    let l = a.actions.now in
    let r = readable a.words.now c.in-Some.shape c.in-Some.ensures in
    let done = c.fill_by.ensures (is_shaped r c.in-Some.ensures (search rules)) in
    fills_trying a.words.now l a.workspace.now a.met.now c.fill_by.result c.fill_by.new.workspace r
    (can_fill a.words.now l (length l) a.workspace.now r (search rules) (ap users (take-length l) ∙ sym c.users_ok.ensures ∙ c.if-not-users_ok.false) c.if-workspace-lt8192.false)
    done.0 done.1
