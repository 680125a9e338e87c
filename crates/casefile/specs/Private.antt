-- The contracts of private functions: a case's parts, text put at a place of an output, and one event of a run.
use Rattle.std.specs.Prelude.{◌≡◌, Bool, ◌&&◌, cond, List, ◌++◌, ℕ, ◌+◌, ◌%◌, ◌≤◌, leb, eqb, length, take, drop, Option, Some, None}
use Rattle.std.proofs.Math.Bool.{So}
use Rattle.monitor.specs.declared.Monitor.{Monitor}
use Rattle.monitor.specs.Monitors.{well_formed}
use Rattle.monitor.specs.Events.{event_code, event_monitor}
use Rattle.monitor.specs.Statuses.{status_letter}
use Rattle.casefile.specs.declared.pairs.Part.{Part}
use Rattle.casefile.specs.declared.cases.Case.{Case}
use Rattle.casefile.specs.Cases.{offset, part_length, has_five, case_ok}
use Rattle.casefile.specs.Texts.{line_text, limit}

-- ── parts ──
abbrev pub part_at : List ℕ → ℕ → Part
part_at b part = record { offset = offset b part; length = part_length b part }

abbrev pub part_end : Part → ℕ
part_end p = p.offset + p.length

-- a case's parts, as its pairs say
abbrev pub case_of : List ℕ → Case
case_of b = record {
  policy = part_at b 0;
  grants = part_at b 1;
  events = part_at b 2;
  behind = cond (has_five b) (Some (part_at b 3, part_at b 4)) None;
}

-- the parts behind the events, or the events, end a file of n bytes
abbrev pub behind_joined : ℕ → Part → Option (Part × Part) → Bool
behind_joined n events None = eqb n (part_end events)
behind_joined n events (Some p) = eqb p.0.offset (part_end events) && (eqb p.1.offset (part_end p.0) && eqb n (part_end p.1))

-- `parts_ok` and `lengths_ok` of the parts
abbrev pub are_joined : Case → ℕ → Bool
are_joined c n = eqb c.grants.offset (part_end c.policy) && (eqb c.events.offset (part_end c.grants) && behind_joined n c.events c.behind)

abbrev pub are_measured : Case → Bool
are_measured c =
    eqb (c.policy.length % 4) 0
    && (eqb (c.events.length % 4) 0
    && (leb c.events.length 1024
    && (leb 2 c.grants.length
    && eqb (c.grants.length % 2) 0)))

-- the parts of a case that is not malformed
pub record Holds (bytes : List ℕ) (c : Case) : Type 0 where
  pub case : So (case_ok bytes)
  pub parts : c ≡ case_of bytes

-- ── text ──
-- text at a place of an output, the rest kept
abbrev pub written : List ℕ → ℕ → List ℕ → List ℕ
written out at text = take at out ++ text ++ drop (at + length text) out

-- the output holds it
abbrev pub HasRoom : List ℕ → ℕ → List ℕ → Type 0
HasRoom out at text = at + length text ≤ length out

-- what a function that puts text leaves: the place behind the text, and the output
pub record Put (out : List ℕ) (at : ℕ) (text : List ℕ) (next : ℕ) (left : List ℕ) : Type 0 where
  pub place : next ≡ at + length text
  pub holds : left ≡ written out at text

-- ── runs ──
-- one event, on a monitor, a workspace and an output that can bear it
pub record CanStep (m : Monitor) (workspace out : List ℕ) (at : ℕ) : Type 0 where
  pub is_formed : So (well_formed m)
  pub size : length workspace ≡ 8192
  pub fits : at + 9 ≤ length out

-- what one event leaves: the monitor l, and its line
pub record Stepped (m : Monitor) (w place : ℕ) (out : List ℕ) (at : ℕ) (l : Monitor) (next : ℕ) (left : List ℕ) : Type 0 where
  pub same : l ≡ event_monitor m w 8192
  pub is_formed : So (well_formed l)
  pub line : Put out at (line_text place (event_code m w 8192) (status_letter (event_monitor m w 8192))) next left

-- a run of a case's events, on an opened monitor
pub record CanRun (m : Monitor) (bytes : List ℕ) (events : Part) (out : List ℕ) : Type 0 where
  pub is_formed : So (well_formed m)
  pub none : m.instance.taken ≡ 0
  pub case : So (case_ok bytes)
  pub part : events ≡ part_at bytes 2
  pub fits : limit ≤ length out
