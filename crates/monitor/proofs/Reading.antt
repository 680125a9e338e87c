-- An event that was read names declared users and roles only; an action's word asks for a workspace, one of kind 4 is a close or malformed.
use mathlib.Core.Path.{◌≡◌, refl, sym, ◌∙◌}
use mathlib.Core.Bool.{Bool, true, false, So, not, ◌&&◌, cond, and-false, true≢false}
use Prim.Native.Nat.{ℕ, ◌/◌, ◌%◌, ◌^◌, ◌≤◌, ◌<◌}
use native.Mathlib.Omega.{arith}
use mathlib.Core.List.{List}
use lib.Dec.{ltb, eqb}
use lib.ListN.{length}
use borrow.Author.Tests.{ltb-false, le-ltb}
use Rattle.soda.proofs.Bools.{and_split, so_lt, so_eq}
use Rattle.policy.specs.Kinds.{ACTION, GRANT, REVOKE, CLOSE}
use Rattle.configuration.specs.declared.Configuration.{Configuration}
use Rattle.monitor.specs.Events.{Event, Acts, Grants, Revokes, Closes, Malformed, event_of, read_event, is_malformed, is_short}
use Rattle.monitor.specs.Laws.{Declared, ReadIsDeclared}
use Rattle.monitor.specs.Private.{Entered, LongEnough}

either_way : (P : Event → Type 0) (b : Bool) {x y : Event} → (So b → P x) → P y → P (cond b x y)
either_way P true f p = f refl
either_way P false f p = p

-- what holds of each event that a word of its kind is read as, and of a malformed one, holds of what a word is read as
module _ (P : Event → Type 0) (users roles w : ℕ) where
  abbrev kind : ℕ
  kind = w / 2 ^ 24

  abbrev Named : (ℕ → ℕ → Event) → Type 0
  Named e = (u r : ℕ) → (u < users) × (r < roles) → P (e u r)

  named : (e : ℕ → ℕ → Event) (u r : ℕ) → Named e → P Malformed → P (cond (ltb u users && ltb r roles) (e u r) Malformed)
  named e u r f z = either_way P (ltb u users && ltb r roles)
      (λ h. let k = and_split (ltb u users) (ltb r roles) h in f u r (so_lt u users k.0, so_lt r roles k.1)) z

  by_kind : (kind ≡ ACTION → (u a : ℕ) → u < users → P (Acts u a)) → (kind ≡ GRANT → Named Grants) → (kind ≡ REVOKE → Named Revokes)
      → (kind ≡ CLOSE → P Closes) → P Malformed → P (read_event users roles w)
  unfolding read_event
  by_kind acts grants revokes closes malformed = go (w / 2 ^ 8 % 2 ^ 8) (w % 2 ^ 8)
    where
      go : (u r : ℕ) → P (cond (eqb (w / 2 ^ 16 % 2 ^ 8) 0) (event_of users roles kind u r) Malformed)
      go u r =
          either_way P (eqb (w / 2 ^ 16 % 2 ^ 8) 0) (λ z.
          either_way P (eqb kind ACTION) (λ e. either_way P (ltb u users) (λ h. acts (so_eq kind ACTION e) u r (so_lt u users h)) malformed)
          (either_way P (eqb kind GRANT) (λ e. named Grants u r (grants (so_eq kind GRANT e)) malformed)
          (either_way P (eqb kind REVOKE) (λ e. named Revokes u r (revokes (so_eq kind REVOKE e)) malformed)
          (either_way P (eqb kind CLOSE) (λ e. either_way P (eqb u 0 && eqb r 0) (λ h. closes (so_eq kind CLOSE e)) malformed) malformed)))) malformed

pub declared : ReadIsDeclared
declared users roles w = by_kind (Declared users roles) users roles w (λ k u a h. h) (λ k u r h. h) (λ k u r h. h) (λ k. tt) tt

-- and 7 does not apply to it
pub entered : (c : Configuration) (e : Event) → Declared c.users c.roles e → is_malformed e ≡ false → Entered c e
entered c (Acts u a) d m = d
entered c (Grants u r) d m = d
entered c (Revokes u r) d m = d
entered c Closes d m = tt
entered c Malformed d m = true≢false m

-- ── the workspace that a word asks for ──
-- of an action n words are too short exactly where they are below 8,192, of a close none are
abbrev pub Asks : ℕ → ℕ → Event → Type 0
Asks w n (Acts u a) = is_short w n ≡ ltb n 8192
Asks w n (Grants u r) = Unit
Asks w n (Revokes u r) = Unit
Asks w n Closes = is_short w n ≡ false
Asks w n Malformed = Unit

pub asks : (users roles w n : ℕ) → Asks w n (read_event users roles w)
asks users roles w n = by_kind (Asks w n) users roles w (λ k u a h. rw k) (λ k u r h. tt) (λ k u r h. tt) (λ k. rw k) tt

pub long_enough : (e : Event) (w : ℕ) (before : List ℕ) → Asks w (length before) e → is_short w (length before) ≡ false → LongEnough e before
long_enough (Acts u a) w before h s = ltb-false (length before) 8192 (sym h ∙ s)
long_enough (Grants u r) w before h s = tt
long_enough (Revokes u r) w before h s = tt
long_enough Closes w before h s = tt
long_enough Malformed w before h s = tt

-- 8,192 words are enough for every word
pub long-is_enough : (w n : ℕ) → 8192 ≤ n → is_short w n ≡ false
long-is_enough w n h = rw (le-ltb n 8192 h) (and-false (not (eqb (w / 2 ^ 24) CLOSE)))

-- what holds of a close and of a malformed event holds of a word of kind 4
pub of_kind_four : (P : Event → Type 0) (users roles w : ℕ) → w / 2 ^ 24 ≡ CLOSE → P Closes → P Malformed → P (read_event users roles w)
of_kind_four P users roles w four closes malformed =
    by_kind P users roles w (λ k u a h. absurd (omega (arith, k, four))) (λ k u r h. absurd (omega (arith, k, four)))
    (λ k u r h. absurd (omega (arith, k, four))) (λ k. closes) malformed
