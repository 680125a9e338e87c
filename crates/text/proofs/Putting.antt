-- Text put at an output's start, part by part: a part put behind what is put leaves less to put.
use mathlib.Core.Path.{◌≡◌, refl, sym, ap, ap₂, ◌∙◌}
use mathlib.Core.List.{List, [], ◌∷◌, ◌++◌, append_assoc, append-nil}
use Prim.Native.Nat.{ℕ, suc, ◌+◌, ◌-◌, ◌≤◌, ◌<◌}
use native.Mathlib.Omega.{arith}
use lib.ListN.{length, get_or, take, drop, set, length-append, length-drop}
use lib.Seq.{drop-length, take_at, drop_at, set_at, drop-cons, drop-drop}
use borrow.Rule.Slice.PartMut.{put_mid}
use Rattle.soda.specs.Lists.{from}
use Rattle.soda.proofs.Lists.{from-drop}
use Rattle.text.specs.Puts.{Put}

-- ── two texts, one behind the other ──
module _ {s out new : List ℕ} {n : ℕ} (p : Put s out n new) where
  behind : drop n new ≡ drop (length s) out
  behind = ap (drop n) p.holds ∙ drop_at s (drop (length s) out) n (sym p.count)

  front : take n new ≡ s
  front = ap (take n) p.holds ∙ take_at s (drop (length s) out) n (sym p.count)

  pub put-length : length s ≤ length out → length new ≡ length out
  put-length room = ap length p.holds ∙ length-append s (drop (length s) out) ∙ omega (arith, length-drop (length s) out)

  pub put-behind : {t part : List ℕ} {m : ℕ} → Put t (from n new) m part → Put (s ++ t) out (n + m) (put_mid n (length new - n) new part)
  put-behind {t} {part} {m} q = record {
    count = omega (arith, p.count, q.count, length-append s t);
    holds =
        let gone : drop (length new - n) (drop n new) ≡ [] =
        ap (λ (k : ℕ). drop k (drop n new)) (sym (length-drop n new)) ∙ drop-length (drop n new) in
        let there : part ≡ t ++ drop (length (s ++ t)) out =
        q.holds ∙ ap (λ (l : List ℕ). t ++ drop (length t) l) (from-drop n new ∙ behind)
        ∙ ap (λ (l : List ℕ). t ++ l) (drop-drop (length t) (length s) out ∙ ap (λ (k : ℕ). drop k out) (sym (length-append s t))) in
        ap₂ (λ (u v : List ℕ). u ++ (part ++ v)) front gone
        ∙ ap (λ (l : List ℕ). s ++ l) (append-nil part ∙ there)
        ∙ sym (append_assoc s t (drop (length (s ++ t)) out));
  }

  byte_behind : (b : ℕ) → suc (length s) ≤ length out → Put (s ++ (b ∷ [])) out (n + 1) (set new n b)
  byte_behind b room =
      let a = length-append s (b ∷ []) in
      let k : length (s ++ (b ∷ [])) ≡ suc (length s) = omega arith in
      record {
        count = omega (arith, p.count);
        holds =
            ap (λ (l : List ℕ). set l n b) (p.holds ∙ ap (λ (l : List ℕ). s ++ l) (drop-cons out (length s) 0 (omega arith)))
            ∙ set_at s (get_or out (length s) 0) (drop (suc (length s)) out) b n (sym p.count)
            ∙ sym (append_assoc s (b ∷ []) (drop (suc (length s)) out)) ∙ rw k;
      }

-- one byte stands already at the start, and another is put in its place
pub put_nothing : (out : List ℕ) → 1 ≤ length out → Put (get_or out 0 0 ∷ []) out 1 out
put_nothing [] h = absurd (omega arith)
put_nothing (x ∷ out) h = record { count = refl; holds = refl }

pub put_first : {x : ℕ} {l out new : List ℕ} {n : ℕ} (w : ℕ) → Put (x ∷ l) out n new → Put (w ∷ l) out n (set new 0 w)
put_first w p = record { count = p.count; holds = ap (λ (o : List ℕ). set o 0 w) p.holds }

-- ── a text of which rest is still to be put ──
pub record Begun (whole out : List ℕ) (n : ℕ) (new rest : List ℕ) : Type 0 where
  pub done : List ℕ
  pub put : Put done out n new
  pub split : done ++ rest ≡ whole
  pub room : length whole ≤ length out

pub begin : {whole out : List ℕ} → length whole ≤ length out → Begun whole out 0 out whole
begin room = record { done = []; put = record { count = refl; holds = refl }; split = refl; room = room }

module _ {whole out new rest : List ℕ} {n : ℕ} (g : Begun whole out n new rest) where
  long : length g.done + length rest ≤ length out
  long = omega (arith, length-append g.done rest, ap length g.split, g.room)

  pub begun_length : length new ≡ length out
  begun_length = put-length g.put (omega (arith, long))

  -- there is room for it
  pub begun_room : n + length rest ≤ length new
  begun_room = omega (arith, g.put.count, begun_length, long)

  pub begun_inside : n ≤ length new
  begun_inside = omega (arith, begun_room)

  pub begun_within : n ≤ length out
  begun_within = omega (arith, g.put.count, long)

-- a part is put
module _ {whole out new : List ℕ} {n : ℕ} (t rest : List ℕ) (g : Begun whole out n new (t ++ rest)) where
  pub part_room : length t ≤ length (from n new)
  part_room = rw (from-drop n new) (omega (arith, begun_room g, length-drop n new, length-append t rest))

  pub part_put : {m : ℕ} {part : List ℕ} → Put t (from n new) m part → Begun whole out (n + m) (put_mid n (length new - n) new part) rest
  part_put q = record {
    done = g.done ++ t;
    put = put-behind g.put q;
    split = append_assoc g.done t rest ∙ g.split;
    room = g.room;
  }

pub byte_room : {whole out new rest : List ℕ} {n b : ℕ} → Begun whole out n new (b ∷ rest) → n < length new
byte_room g = omega (arith, begun_room g)

pub byte_put : {whole out new rest : List ℕ} {n b : ℕ} → Begun whole out n new (b ∷ rest) → Begun whole out (n + 1) (set new n b) rest
byte_put {rest = rest} {b = b} g = record {
  done = g.done ++ (b ∷ []);
  put = byte_behind g.put b (omega (arith, long g));
  split = append_assoc g.done (b ∷ []) rest ∙ g.split;
  room = g.room;
}

-- the first part
pub start-put : {t out new : List ℕ} {n : ℕ} (rest : List ℕ) → Put t out n new → length (t ++ rest) ≤ length out → Begun (t ++ rest) out n new rest
start-put {t} rest p room = record { done = t; put = p; split = refl; room = room }

-- nothing is left
pub all-put : {whole out new : List ℕ} {n : ℕ} → Begun whole out n new [] → Put whole out n new
all-put g = rw (sym (append-nil g.done) ∙ g.split) at g.put
