-- The configuration (document 004, Definition 1): the counts, who holds which roles, and which roles give which actions.
use Rattle.std.specs.Prelude.{Bool, not, ◌&&◌, cond, List, [], ◌∷◌, ℕ, ◌^◌, ltb, eqb, length, take, drop, set as put, replicate, Result, Ok, Err}
use Rattle.soda.specs.Bits.{set_bit, clear_bit}
use Rattle.soda.specs.Lists.{all, padded}
use Rattle.soda.specs.Roles.{UA, roles}
use Rattle.policy.specs.Codes.{ACCEPTED, COUNTS, ROWS}
use Rattle.policy.specs.Refusals.{Refusals, ◌gives◌, code}
use Rattle.policy.specs.Reading.{count_ok}
use Rattle.policy.specs.Faults.{code_number}
use Rattle.policy.specs.Answers.{code_of}
use Rattle.policy.specs.declared.refusal.Refusal.{Refusal}
use Rattle.configuration.specs.declared.Configuration.{Configuration}

-- the user assignment UA (01: grants): a row for each user, bit r for role r
abbrev pub assignment : Configuration → UA
assignment c = take c.users c.user_roles

-- the roles that user u holds
abbrev pub held : Configuration → ℕ → ℕ
held c u = roles c.user_roles u

-- ── as it starts ──
-- all zero
abbrev pub no_configuration : Configuration
no_configuration = record { permissions = replicate 16 0; user_roles = replicate 16 0; users = 0; roles = 0 }

-- as an opening is given it, without permissions; rows past the users are zero
abbrev pub configuration_of : ℕ → ℕ → List ℕ → Configuration
configuration_of users roles rows = record { permissions = replicate 16 0; user_roles = padded 16 rows; users = users; roles = roles }

abbrev pub with_permissions : Configuration → List ℕ → Configuration
with_permissions c permissions = record { permissions = permissions; user_roles = c.user_roles; users = c.users; roles = c.roles }

-- grant rows are one a user, and name only declared roles (01, number 6)
abbrev pub rows_ok : ℕ → ℕ → List ℕ → Bool
rows_ok users roles rows = eqb (length rows) users && all (λ h. ltb h (2 ^ roles)) rows

-- what an opening's configuration is refused for behind its policy: 6
abbrev pub row_refusals : ℕ → ℕ → List ℕ → Refusals
row_refusals users roles rows = (not (rows_ok users roles rows) gives ROWS) ∷ []

-- and by itself: 5 first
abbrev pub configuration_refusals : ℕ → ℕ → List ℕ → Refusals
configuration_refusals users roles rows = (not (count_ok users && count_ok roles) gives COUNTS) ∷ row_refusals users roles rows

-- what an opening gives a configuration: its number, and the configuration; all zero where it is refused
pub record Configured : Type 0 where
  pub code : ℕ
  pub configuration : Configuration

abbrev pub configured_as : ℕ → Configuration → Configured
configured_as k c = record { code = k; configuration = cond (eqb k 0) c no_configuration }

unfoldable pub given_configuration : ℕ → ℕ → List ℕ → Configured
given_configuration users roles rows = configured_as (code (configuration_refusals users roles rows)) (configuration_of users roles rows)

-- what `open` of src answers
abbrev pub as_configured : Result Configuration Refusal → Configured
as_configured (Ok c) = record { code = ACCEPTED; configuration = c }
as_configured (Err r) = record { code = code_number (code_of r); configuration = no_configuration }

-- ── a grant or revocation alters one bit ──
abbrev pub with_row : Configuration → ℕ → ℕ → Configuration
with_row c u h = record { permissions = c.permissions; user_roles = put c.user_roles u h; users = c.users; roles = c.roles }

abbrev pub with_grant : Configuration → ℕ → ℕ → Configuration
with_grant c u r = with_row c u (set_bit r (held c u))

abbrev pub without_grant : Configuration → ℕ → ℕ → Configuration
without_grant c u r = with_row c u (clear_bit r (held c u))

-- ── its part of number 15 ──
abbrev pub is_zero : ℕ → Bool
is_zero n = eqb n 0

-- its counts and grants would be accepted, and every unused row is zero, of users and of permissions
unfoldable pub configuration_ok : Configuration → Bool
configuration_ok c =
    (count_ok c.users && count_ok c.roles)
    && (rows_ok c.users c.roles (assignment c)
    && (all is_zero (drop c.users c.user_roles) && all is_zero (drop c.roles c.permissions)))

-- no role gives an action
abbrev pub gives_nothing : Configuration → Bool
gives_nothing c = all is_zero c.permissions
