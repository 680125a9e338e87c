-- Each return rewrites the definition with the tests that led there.
use Rattle.std.proofs.Common.{◌≡◌, Bool, ◌&&◌, drop, refl, sym, ap, ◌∙◌}
use mathlib.Core.Bool.{and_assoc}
use Rattle.soda.specs.Lists.{all}
use Rattle.configuration.specs.declared.Configuration.{Configuration}
use Rattle.configuration.specs.Configurations.{assignment, is_zero, rows_ok, configuration_ok}
use Rattle.configuration.proofs.Chains.{and_then, and_else}
use Rattle.configuration.proofs.Configuration.is_well_formed.Goals as goal
use Rattle.configuration.proofs.Configuration.is_well_formed.Goals.{then-rows_ok, else-rows_ok}

pub returns-then-not-count_ok : goal.returns-then-not-count_ok
unfolding configuration_ok
returns-then-not-count_ok c = simp (sym c.count_ok.ensures ∙ c.if-not-count_ok.true)

pub returns-then-not-count_ok-2 : goal.returns-then-not-count_ok-2
unfolding configuration_ok
returns-then-not-count_ok-2 c =
    simp (sym c.count_ok.ensures ∙ c.if-not-count_ok.false, sym c.count_ok-2.ensures ∙ c.if-not-count_ok-2.true)

abbrev unused_rows : Configuration → Bool
unused_rows i = all is_zero (drop i.users i.user_roles)

abbrev unused_permissions : Configuration → Bool
unused_permissions i = all is_zero (drop i.roles i.permissions)

pub returns-then-all_are : goal.returns-then-all_are
unfolding configuration_ok
returns-then-all_are c =
    let i = c.args.self in
    let users = sym c.count_ok.ensures ∙ c.if-not-count_ok.false in
    let roles = sym c.count_ok-2.ensures ∙ c.if-not-count_ok-2.false in
    let rows = c.rows_ok.ensures ∙ ap (rows_ok i.users i.roles) c.split_at.ensures.front in
    let first : c.if-rows_ok.value ≡ (rows_ok i.users i.roles (assignment i) && unused_rows i) = elim c.if-rows_ok.branch [
      | then-rows_ok w ↦ and_then rows w.if-rows_ok.true (w.all_are.ensures ∙ ap (all is_zero) c.split_at.ensures.back) w.value-is
      | else-rows_ok w ↦ and_else (unused_rows i) rows w.if-rows_ok.false w.value-is
    ] in
    rw (users, roles) (and_then first c.if-all_are.true (c.all_are-then-all_are.ensures ∙ ap (all is_zero) c.split_at-2.ensures.back) refl ∙ and_assoc (rows_ok i.users i.roles (assignment i)) (unused_rows i) (unused_permissions i))

pub returns-else-all_are : goal.returns-else-all_are
unfolding configuration_ok
returns-else-all_are c =
    let i = c.args.self in
    let users = sym c.count_ok.ensures ∙ c.if-not-count_ok.false in
    let roles = sym c.count_ok-2.ensures ∙ c.if-not-count_ok-2.false in
    let rows = c.rows_ok.ensures ∙ ap (rows_ok i.users i.roles) c.split_at.ensures.front in
    let first : c.if-rows_ok.value ≡ (rows_ok i.users i.roles (assignment i) && unused_rows i) = elim c.if-rows_ok.branch [
      | then-rows_ok w ↦ and_then rows w.if-rows_ok.true (w.all_are.ensures ∙ ap (all is_zero) c.split_at.ensures.back) w.value-is
      | else-rows_ok w ↦ and_else (unused_rows i) rows w.if-rows_ok.false w.value-is
    ] in
    rw (users, roles) (and_else (unused_permissions i) first c.if-all_are.false refl ∙ and_assoc (rows_ok i.users i.roles (assignment i)) (unused_rows i) (unused_permissions i))
