-- A grant or revocation moves the configuration: a declared role has a bit in the rows.
use Rattle.std.proofs.Common.{◌≡◌, ℕ, ◌<◌, true, ltb, subst, lt-ltb, arith}
use Rattle.std.proofs.Math.Bool.{So}
use Rattle.configuration.specs.declared.Configuration.{Configuration}
use Rattle.configuration.specs.Configurations.{configuration_ok}
use Rattle.configuration.proofs.Formed.{configuration_formed, roles_most}
use Rattle.std.specs.Prelude.{Some}
use Rattle.monitor.specs.Events.{as_event}
use Rattle.monitor.specs.Private.{Entered}
use Rattle.monitor.specs.declared.events.Event.{Event as Read}
use Rattle.monitor.proofs.Monitor.perform.Goals as goal

in_rows : (c : Configuration) (r : ℕ) → So (configuration_ok c) → r < c.roles → ltb r 16 ≡ true
in_rows c r h d = lt-ltb r 16 (omega (arith, d, roles_most c (configuration_formed c h)))

pub returns-in-Grant : goal.returns-in-Grant
returns-in-Grant c =
    let o = c.args.self.now.configuration in
    let names = subst named c.in-Grant.is c.requires.2 in
    rw (c.in-Grant.is, c.with_grant-self.ensures, in_rows o c.in-Grant.role c.requires.0.configuration_is_ok names.1)
  where
    named : Read → Type 0
    named e = Entered c.args.self.now.configuration (as_event (Some e))

pub returns-in-Revoke : goal.returns-in-Revoke
returns-in-Revoke c =
    let o = c.args.self.now.configuration in
    let names = subst named c.in-Revoke.is c.requires.2 in
    rw (c.in-Revoke.is, c.without_grant-self.ensures, in_rows o c.in-Revoke.role c.requires.0.configuration_is_ok names.1)
  where
    named : Read → Type 0
    named e = Entered c.args.self.now.configuration (as_event (Some e))
