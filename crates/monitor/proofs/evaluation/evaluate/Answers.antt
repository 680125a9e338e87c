-- Bit 0 of the words at the mask of all actions is read.
use Rattle.std.proofs.Common.{◌≡◌, ℕ, ◌*◌, ◌%◌, ◌^◌, ◌≤◌, length, pow_pos, pow_mono, lt-ltb, le-ltb, arith}
use Rattle.soda.proofs.Bits.{one_shl}
use Rattle.monitor.proofs.Evaluating.{kept_short, kept_full}
use Rattle.monitor.proofs.evaluation.evaluate.Goals as goal

-- the mask of all actions, as the code computes it
shifted : (n : ℕ) → n ≤ 12 → 1 * 2 ^ n % 2 ^ 64 ≡ 2 ^ n
shifted n h = one_shl 64 n (omega (arith, h))

low : (n : ℕ) → n ≤ 12 → 2 ^ n ≤ 4096
low n h = pow_mono h

pub returns-then-workspace-lt8192 : goal.returns-then-workspace-lt8192
returns-then-workspace-lt8192 c =
    let a = c.args in
    record {
      number = rw (lt-ltb (length a.workspace.now) 8192 c.if-workspace-lt8192.true);
      workspace = rw (kept_short a.words.now a.actions.now (length a.actions.now) a.workspace.now c.if-workspace-lt8192.true);
      satisfied = tt;
      possible = tt;
    }

pub returns-then-actions-gt12 : goal.returns-then-actions-gt12
returns-then-actions-gt12 c =
    let a = c.args in
    record {
      number = rw (le-ltb (length a.workspace.now) 8192 c.if-workspace-lt8192.false, lt-ltb 12 (length a.actions.now) c.if-actions-gt12.true);
      workspace = rw (kept_full a.words.now a.actions.now (length a.actions.now) a.workspace.now c.if-actions-gt12.true);
      satisfied = tt;
      possible = tt;
    }

pub bounds-workspace-all : goal.bounds-workspace-all
bounds-workspace-all c =
    let n = length c.args.actions.now in
    let few : n ≤ 12 = omega arith in
    omega (arith, shifted n few, low n few, pow_pos n)

pub bounds-workspace-all-2 : goal.bounds-workspace-all-2
bounds-workspace-all-2 c =
    let n = length c.args.actions.now in
    let few : n ≤ 12 = omega arith in
    omega (arith, shifted n few, low n few, pow_pos n)
