-- The lines of a run: one more event adds its line, and at most nine bytes.
use mathlib.Core.Path.{◌≡◌, refl, sym, ap, ◌∙◌}
use mathlib.Core.List.{List, [], ◌∷◌, ◌++◌, append-nil, append_assoc}
use Prim.Native.Nat.{ℕ, suc, ◌+◌, ◌*◌, ◌≤◌}
use native.Mathlib.Omega.{arith}
use lib.ListN.{length, length-append}
use Rattle.monitor.specs.declared.Monitor.{Monitor}
use Rattle.monitor.specs.Events.{is_short, event_in, event_code, event_monitor}
use Rattle.monitor.specs.Statuses.{status_letter}
use Rattle.monitor.specs.Runs.{run, final}
use Rattle.casefile.specs.Cases.{wide, wides}
use Rattle.casefile.specs.Texts.{line_text, case_run, step_lines}
use Rattle.casefile.proofs.Decoding.{numbers-length, numbers-next}
use Rattle.casefile.proofs.Decimals.{line-length}
use Rattle.casefile.proofs.Refusing.{event-below}

-- the line of an event at a place, and the monitor that events leave
abbrev pub line_of : Monitor → ℕ → ℕ → List ℕ
line_of m place w = line_text place (event_code m w 8192) (status_letter (event_monitor m w 8192))

abbrev pub lines_of : Monitor → ℕ → List ℕ → List ℕ
lines_of m p ws = step_lines p (case_run m ws)

abbrev pub after : Monitor → List ℕ → Monitor
after m ws = final m (case_run m ws)

after_next : (m : Monitor) (ws : List ℕ) (w : ℕ) → after m (ws ++ (w ∷ [])) ≡ event_monitor (after m ws) w 8192
unfolding run
after_next m [] w = refl
after_next m (v ∷ ws) w = after_next (event_monitor m v 8192) ws w

lines_next : (m : Monitor) (p : ℕ) (ws : List ℕ) (w : ℕ) → lines_of m p (ws ++ (w ∷ [])) ≡ lines_of m p ws ++ line_of (after m ws) (p + length ws) w
unfolding run step_lines
lines_next m p [] w = let e : p ≡ p + 0 = omega arith in append-nil (line_of m p w) ∙ ap (λ (n : ℕ). line_of m n w) e
lines_next m p (v ∷ ws) w =
    let l = event_monitor m v 8192 in
    let e : suc p + length ws ≡ p + suc (length ws) = omega arith in
    ap (λ (t : List ℕ). line_of m p v ++ t) (lines_next l (suc p) ws w ∙ ap (λ (n : ℕ). lines_of l (suc p) ws ++ line_of (after l ws) n w) e)
    ∙ sym (append_assoc (line_of m p v) (lines_of l (suc p) ws) (line_of (after l ws) (p + suc (length ws)) w))

pub line-short : (m : Monitor) (place w : ℕ) → length (line_of m place w) ≤ 9
line-short m place w =
    let k = event-below m (event_in m w) (is_short w 8192) in
    line-length place (event_code m w 8192) (status_letter (event_monitor m w 8192)) (omega arith)

lines-short : (m : Monitor) (p : ℕ) (ws : List ℕ) → length (lines_of m p ws) ≤ 9 * length ws
unfolding run step_lines
lines-short m p [] = omega arith
lines-short m p (w ∷ ws) =
    let l = event_monitor m w 8192 in
    omega (arith, length-append (line_of m p w) (lines_of l (suc p) ws), line-short m p w, lines-short l (suc p) ws)

-- one more event, read from a case's bytes
module _ (m : Monitor) (b : List ℕ) (k n : ℕ) where
  words_more : wides b k (n + 1) ≡ wides b k n ++ (wide b (k + n * 4) ∷ [])
  words_more = numbers-next (wide b) 4 k n

  pub after_more : after m (wides b k (n + 1)) ≡ event_monitor (after m (wides b k n)) (wide b (k + n * 4)) 8192
  after_more = ap (after m) words_more ∙ after_next m (wides b k n) (wide b (k + n * 4))

  pub lines_more : lines_of m 1 (wides b k (n + 1)) ≡ lines_of m 1 (wides b k n) ++ line_of (after m (wides b k n)) (n + 1) (wide b (k + n * 4))
  lines_more =
      let e : 1 + length (wides b k n) ≡ n + 1 = omega (arith, numbers-length (wide b) 4 k n) in
      ap (lines_of m 1) words_more ∙ lines_next m 1 (wides b k n) (wide b (k + n * 4))
      ∙ ap (λ (p : ℕ). lines_of m 1 (wides b k n) ++ line_of (after m (wides b k n)) p (wide b (k + n * 4))) e

  pub lines-bound : length (lines_of m 1 (wides b k n)) ≤ 9 * n
  lines-bound = omega (arith, lines-short m 1 (wides b k n), numbers-length (wide b) 4 k n)
