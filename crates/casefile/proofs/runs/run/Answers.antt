-- The case's events lie within its bytes, and there is room for their lines and one more; one more event adds its line.
use Rattle.std.proofs.Common.{◌≡◌, ◌+◌, ◌*◌, ◌/◌, ◌≤◌, ◌++◌, ℕ, List, length, length-append, refl, sym, ap, ◌∙◌, arith}
use mathlib.Core.Path.{ap₂}
use Rattle.std.proofs.Math.Bool.{So}
use Rattle.monitor.specs.declared.Monitor.{Monitor}
use Rattle.monitor.specs.Monitors.{well_formed}
use Rattle.monitor.specs.Events.{event_monitor}
use Rattle.monitor.specs.Runs.{run, taken}
use Rattle.monitor.proofs.Formed.{twelve_at_most}
use Rattle.casefile.specs.declared.pairs.Part.{Part}
use Rattle.casefile.specs.Cases.{wide, wides, event_words, case_ok}
use Rattle.casefile.specs.Texts.{taken_text, case_run, step_lines, run_text}
use Rattle.casefile.specs.Private.{part_at, HasRoom, Put, CanRun}
use Rattle.casefile.proofs.Laying.{laid}
use Rattle.casefile.proofs.Decimals.{taken-length}
use Rattle.casefile.proofs.Writing.{put-behind, room-behind, put-length}
use Rattle.casefile.proofs.Lines.{line_of, lines_of, after, after_more, lines_more, lines-bound, line-short}
use Rattle.casefile.proofs.Taken.{taken-is-final}
use Rattle.casefile.proofs.runs.run.Goals as goal

-- ── the case's events ──
module _ (b : List ℕ) (ok : So (case_ok b)) (events : Part) (part : events ≡ part_at b 2) where
  begins : events.offset ≡ (part_at b 2).offset
  begins = ap (λ (p : Part). p.offset) part

  long : events.length ≡ (part_at b 2).length
  long = ap (λ (p : Part). p.length) part

  few : events.length / 4 ≤ 256
  few = let l = laid b ok in let n = long in omega arith

  inside : events.offset + events.length / 4 * 4 ≤ length b
  inside = let l = laid b ok in let n = long in let k = begins in omega arith

  all-events : wides b events.offset (events.length / 4) ≡ event_words b
  all-events = ap (λ (p : Part). wides b p.offset (p.length / 4)) part

-- ── after i of the events from a place of the bytes on: the lines so far, and the room that they leave ──
module _ (m : Monitor) (b : List ℕ) (events : Part) (out : List ℕ) (can : CanRun m b events out) (from i : ℕ) (few : i ≤ 256) where
  abbrev text : List ℕ
  text = lines_of m 1 (wides b from i)

  short : length text ≤ 9 * i
  short = lines-bound m b from i

  -- a text of nine bytes more fits
  fits : (t : List ℕ) → length t ≤ 9 → HasRoom out 0 (text ++ t)
  fits t l = omega (arith, length-append text t, short, can.fits)

  as_long : {at : ℕ} {left : List ℕ} → Put out 0 text at left → length left ≡ length out
  as_long p = put-length p (omega (arith, short, can.fits))

  -- one event more, on the monitor j
  module _ (j : Monitor) (same : j ≡ after m (wides b from i)) (w : ℕ) (word : w ≡ wide b (from + i * 4)) where
    grown : text ++ line_of j (i + 1) w ≡ lines_of m 1 (wides b from (i + 1))
    grown = ap₂ (λ (k : Monitor) (v : ℕ). text ++ line_of k (i + 1) v) same word ∙ sym (lines_more m b from i)

    next-monitor : event_monitor j w 8192 ≡ after m (wides b from (i + 1))
    next-monitor = ap₂ (λ (k : Monitor) (v : ℕ). event_monitor k v 8192) same word ∙ sym (after_more m b from i)

taken-short : (j : Monitor) → So (well_formed j) → length (taken_text j.instance.taken) ≤ 9
taken-short j h = let n = twelve_at_most j h in taken-length j.instance.taken (omega arith)

pub loop-i-init : goal.loop-i-init
unfolding run step_lines
loop-i-init c = record {
  size = refl;
  is_formed = c.requires.is_formed;
  same = refl;
  lines = record { place = refl; holds = refl };
}

pub read-word-requires : goal.read-word-requires
read-word-requires c =
    let a = c.args in
    let n = inside a.bytes.now c.requires.case a.events c.requires.part in
    omega arith

pub step-stepped-requires : goal.step-stepped-requires
step-stepped-requires c =
    let a = c.args in
    let b : List ℕ = a.bytes.now in
    let l = c.loop-i in
    let most = few b c.requires.case a.events c.requires.part in
    let k : l.i ≤ 256 = omega arith in
    record {
      is_formed = l.invariant.is_formed;
      size = l.invariant.size;
      fits = omega (arith, as_long a.monitor b a.events a.out.now c.requires c.from-from.result l.i k l.invariant.lines, short a.monitor b a.events a.out.now c.requires c.from-from.result l.i k, l.invariant.lines.place, c.requires.fits);
    }

pub loop-i-preserved : goal.loop-i-preserved
loop-i-preserved c =
    let a = c.args in
    let b : List ℕ = a.bytes.now in
    let l = c.loop-i in
    let s = c.step-stepped in
    let w = c.read-word.result in
    let from = c.from-from.result in
    let most = few b c.requires.case a.events c.requires.part in
    let k : l.i ≤ 256 = omega arith in
    let line : List ℕ = line_of l.current (l.i + 1) w in
    record {
      size = s.auto.workspace ∙ l.invariant.size;
      is_formed = s.ensures.is_formed;
      same = s.ensures.same ∙ next-monitor a.monitor b a.events a.out.now c.requires from l.i k l.current l.invariant.same w c.read-word.ensures;
      lines = rw (grown a.monitor b a.events a.out.now c.requires from l.i k l.current l.invariant.same w c.read-word.ensures) at
          (put-behind l.invariant.lines line (fits a.monitor b a.events a.out.now c.requires from l.i k line (line-short l.current (l.i + 1) w)) s.ensures.line);
    }

pub put_taken-requires : goal.put_taken-requires
put_taken-requires c =
    let a = c.args in
    let b : List ℕ = a.bytes.now in
    let l = c.loop-i in
    let most = few b c.requires.case a.events c.requires.part in
    let k : l.i ≤ 256 = omega arith in
    let t : List ℕ = taken_text l.current.instance.taken in
    room-behind l.invariant.lines t (fits a.monitor b a.events a.out.now c.requires c.from-from.result l.i k t (taken-short l.current l.invariant.is_formed))

pub returns : goal.returns
unfolding run_text
returns c =
    let a = c.args in
    let b : List ℕ = a.bytes.now in
    let l = c.loop-i in
    let from = c.from-from.result in
    let most = few b c.requires.case a.events c.requires.part in
    let k : l.i ≤ 256 = omega arith in
    let last : l.i ≡ a.events.length / 4 = omega arith in
    let all : wides b from l.i ≡ event_words b = ap₂ (λ (k n : ℕ). wides b k n) c.from-from.ensures last ∙ all-events b c.requires.case a.events c.requires.part in
    let n : l.current.instance.taken ≡ taken (case_run a.monitor (wides b from l.i)) = ap (λ (j : Monitor). j.instance.taken) l.invariant.same ∙ sym (taken-is-final a.monitor (wides b from l.i) (λ k. 8192) c.requires.none) in
    let t : List ℕ = taken_text l.current.instance.taken in
    rw (← all, ← n)
    (put-behind l.invariant.lines t (fits a.monitor b a.events a.out.now c.requires from l.i k t (taken-short l.current l.invariant.is_formed)) c.put_taken.ensures)
