-- The reader's answer decides: a refusal is passed on, and an accepted policy is the words of one term, whose text the array has room for.
use Rattle.std.proofs.Common.{◌≡◌, ℕ, ◌≤◌, ◌<◌, List, [], length, take, drop, replicate, refl, sym, ap, ◌∙◌, append-nil, arith}
use Rattle.std.proofs.lemmas.Result.{err_from_is_err_and}
use lib.Seq.{length-take-le, take_at}
use Rattle.soda.specs.Terms.{Term}
use Rattle.soda.specs.Words.{encode}
use Rattle.policy.specs.Codes.{OUTPUT}
use Rattle.policy.specs.Accepted.{IsPolicy}
use Rattle.policy.specs.Codes.{Plain}
use Rattle.policy.specs.Reading.{Accepted, read_policy}
use Rattle.policy.proofs.Accepted.{read_is-encode, decode-is-term}
use Rattle.text.specs.Texts.{policy_text}
use Rattle.text.specs.Writing.{text_of, write_refusals, write_answer, write_out}
use Rattle.text.specs.Puts.{Put}
use Rattle.text.specs.Reading.{Converted, Written, Refused}
use Rattle.text.proofs.Putting.{put-length}
use Rattle.text.proofs.Lengths.{text-fits}
use Rattle.text.proofs.Policies.{policy_named}
use Rattle.text.proofs.Converting.{Converts, refused, no_room, written}
use Rattle.printer.specs.Private.{PolicySpelt, PolicyPut}
use Rattle.printer.proofs.writing.write_text.Goals as goal

-- ── the answer ──
module _ (users roles : ℕ) (ws out : List ℕ) where
  as_asked : {r : Converted} {end : List ℕ} → Converts users roles ws (text_of ws) out r end
      → (r ≡ write_answer users roles ws (length out)) × (end ≡ write_out users roles ws out)
  unfolding write_refusals write_out
  as_asked q = (q.answers, q.leaves)

  -- an accepted policy
  module _ (n m : ℕ) (e : read_policy users roles ws ≡ Accepted n m) where
    φ : Term
    φ = ((read_is-encode users roles ws n m).0 e).0

    is-policy : IsPolicy users roles ws φ
    unfolding φ
    is-policy = ((read_is-encode users roles ws n m).0 e).1

    text-is : text_of ws ≡ policy_text φ
    unfolding text_of
    text-is = rw (decode-is-term users roles ws φ is-policy)

    -- an array of 767 bytes has room for its text ..
    spelt : PolicySpelt ws 767
    spelt =
        let room = text-fits users roles ws φ is-policy in
        record {
          spelt = record {
            term = φ;
            rest = [];
            words = is-policy.written ∙ sym (append-nil (encode φ));
            fit = policy_named users roles ws φ is-policy;
            room = omega arith;
          };
          room = room;
        }

    -- .. which is put there ..
    module _ (zeros text : List ℕ) (z : length zeros ≡ 767) {k : ℕ} (p : PolicyPut ws zeros k text) where
      put : Put (policy_text φ) zeros k text
      unfolding spelt
      put = p (rw z spelt)

      counts : k ≡ length (text_of ws)
      counts = put.count ∙ ap length (sym text-is)

      front : take k text ≡ text_of ws
      front = ap (take k) put.holds ∙ take_at (policy_text φ) (drop (length (policy_text φ)) zeros) k (sym put.count) ∙ sym text-is

      inside : k ≤ length text
      inside = let h = text-fits users roles ws φ is-policy in omega (arith, put.count, put-length put (omega (arith, z)), z)

      too_long : length out < k → (Refused (Plain OUTPUT) ≡ write_answer users roles ws (length out)) × (out ≡ write_out users roles ws out)
      too_long h = as_asked (no_room users roles ws (text_of ws) out n m e (omega (arith, counts)))

      -- .. and copied
      copied : {r : ℕ} {end : List ℕ} → k ≤ length out → Put (take k text) out r end
          → (Written k ≡ write_answer users roles ws (length out)) × (end ≡ write_out users roles ws out)
      copied h d =
          let q = as_asked (written users roles ws (text_of ws) out n m e (omega (arith, counts))) in
          (ap Written counts ∙ q.0, d.holds ∙ rw front q.1)

-- ── a refused policy ──
pub returns-in_err-read : goal.returns-in_err-read
returns-in_err-read c =
    let a = c.args in
    let q = as_asked a.users a.roles a.words.now a.out.now (refused a.users a.roles a.words.now (text_of a.words.now) a.out.now _ (sym c.in_err-read.ensures)) in
    let p = err_from_is_err_and c.from_residual.result c.from_residual.ensures.1 in
    record { value = rw (p.1, p.2) q.0; out_after = q.1 }

-- ── an accepted policy ──
pub put_text-n-requires : goal.put_text-n-requires
put_text-n-requires c = let a = c.args in spelt a.users a.roles a.words.now a.out.now _ _ (sym c.in_ok-read.ensures)

pub returns-then-out-n : goal.returns-then-out-n
returns-then-out-n c =
    let a = c.args in
    let q = too_long a.users a.roles a.words.now a.out.now _ _ (sym c.in_ok-read.ensures) (replicate 767 0) c.put_text-n.new.out refl c.put_text-n.ensures
    c.if-out-n.true in
    record { value = q.0; out_after = q.1 }

pub slice_bounds-text-end : goal.slice_bounds-text-end
slice_bounds-text-end c =
    let a = c.args in
    inside a.users a.roles a.words.now a.out.now _ _ (sym c.in_ok-read.ensures) (replicate 767 0) c.put_text-n.new.out refl c.put_text-n.ensures

pub slice_bounds-copy-end : goal.slice_bounds-copy-end
slice_bounds-copy-end c =
    let a = c.args in
    let h = inside a.users a.roles a.words.now a.out.now _ _ (sym c.in_ok-read.ensures) (replicate 767 0) c.put_text-n.new.out refl c.put_text-n.ensures in
    sym (length-take-le c.put_text-n.result c.put_text-n.new.out h)

pub returns : goal.returns
returns c =
    let a = c.args in
    let q = copied a.users a.roles a.words.now a.out.now _ _ (sym c.in_ok-read.ensures) (replicate 767 0) c.put_text-n.new.out refl c.put_text-n.ensures
    c.if-out-n.false c.copy.ensures in
    record { value = q.0; out_after = q.1 }
