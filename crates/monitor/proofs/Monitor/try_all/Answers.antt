-- The candidates are found, what each user up to the last of them meets is laid out, and these users are tried with it (`Candidates`).
use Rattle.std.proofs.Common.{◌≡◌, ℕ, ◌≤◌, List, length, take, ◌∙◌, length-take-le, arith, rules}
use lib.Seq.{take-length}
use Rattle.soda.specs.declared.Action.{Action}
use Rattle.soda.proofs.Lists.{length_mapped}
use Rattle.workspace.specs.Workspace.{is_filled}
use Rattle.workspace.specs.Trials.{trials_of}
use Rattle.configuration.specs.declared.Configuration.{Configuration}
use Rattle.instance.specs.declared.Instance.{Instance}
use Rattle.configuration.proofs.Formed.{configuration_formed, users_most}
use Rattle.instance.proofs.Formed.{instance-formed}
use Rattle.monitor.specs.Private.{Admitted}
use Rattle.monitor.proofs.Fillable.{fillable_formed}
use Rattle.monitor.proofs.Candidates.{found-few, found-tried}
use Rattle.monitor.proofs.Monitor.try_all.Goals as goal

-- the first actions alone are tried behind as all of them and their number are
first_alone : (words : List ℕ) (l : List Action) (n : ℕ) (met before : List ℕ) → n ≤ length l
    → trials_of words (take n l) (length (take n l)) met before ≡ trials_of words l n met before
unfolding trials_of is_filled
first_alone words l n met before h = rw (take-length (take n l), length-take-le n l h)

few : (c : Configuration) (i : Instance) (before : List ℕ) → Admitted c i before → c.users ≤ 16
few c i before h = users_most c (configuration_formed c h.configuration_is_ok)

pub shared_ref_as_front-words : goal.shared_ref_as_front-words
shared_ref_as_front-words c = (instance-formed c.args.self.configuration c.args.self.instance c.requires.instance_is_ok).words_most

pub shared_ref_as_front-met_each : goal.shared_ref_as_front-met_each
shared_ref_as_front-met_each c =
    found-few _ _ c.args.action (few _ _ _ c.requires) c.candidates-candidates.result c.candidates-candidates.ensures

pub shared_ref_as_front-taken : goal.shared_ref_as_front-taken
shared_ref_as_front-taken c = (instance-formed c.args.self.configuration c.args.self.instance c.requires.instance_is_ok).taken_most

pub returns : goal.returns
returns c =
    let o = c.args.self.configuration in
    let i = c.args.self.instance in
    let room : List ℕ = c.args.workspace.now in
    let h = c.requires in
    let r = c.candidates-candidates in
    let f = instance-formed o i h.instance_is_ok in
    let rows : length o.user_roles ≡ 16 = search rules in
    let met : length c.met_each-met.result ≡ 16 = search rules in
    let places : length i.actions ≡ 12 = search (rules, length_mapped) in
    let most = found-few o i c.args.action (few o i room h) r.result r.ensures in
    let fills = fillable_formed o i room (configuration_formed o h.configuration_is_ok) f h.long in
    let e = c.try_users.ensures ∙ first_alone _ i.actions i.taken _ room (omega (arith, places, f.taken_most)) in
    found-tried o i c.args.action (few o i room h) r.result r.ensures (omega (arith, most, rows)) c.met_each-met.result (omega (arith, most, met)) c.met_each-met.ensures room fills _ e
