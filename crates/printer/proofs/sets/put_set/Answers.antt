-- A user of the set is put with the sign before it, and leaves the users behind it; at the end `}` is left.
use Rattle.std.proofs.Common.{◌≡◌, ℕ, ◌+◌, ◌/◌, ◌^◌, ◌≤◌, ◌<◌, List, ◌∷◌, ◌++◌, sym, ◌∙◌, arith, eq-eqb, ne_eqb}
use Prim.Native.Char.{code}
use lib.Bits.{bit_and, and_mask}
use lib.ListN.{set}
use Rattle.text.specs.Texts.{ascii, numeral}
use Rattle.text.proofs.Putting.{Begun, part_room, part_put, byte_put, all-put}
use Rattle.printer.proofs.Listing.{listed_from, listed-skips, listed_names, listed-ends}
use Rattle.printer.proofs.sets.put_set.Goals as goal
use Rattle.printer.proofs.sets.put_set.Goals.{then-mask-user-eq1, else-mask-user-eq1}

module _ {whole out new : List ℕ} {n : ℕ} (m sign u : ℕ) (g : Begun whole out n new (listed_from m sign u)) where
  -- the sign is put, and the number comes next
  signed : u < 16 → bit_and (m / 2 ^ u) 1 ≡ 1 → Begun whole out (n + 1) (set new n sign) (numeral u ++ listed_from m (code ",") (u + 1))
  signed h t =
      let next : Begun whole out n new (sign ∷ (numeral u ++ listed_from m (code ",") (u + 1))) =
      rw (listed_names m sign u h (eq-eqb _ 1 (sym (and_mask (m / 2 ^ u) 1) ∙ t))) at g in
      byte_put next

  skipped : u < 16 → (bit_and (m / 2 ^ u) 1 ≡ 1 → ⊥) → Begun whole out n new (listed_from m sign (u + 1))
  skipped h t = rw (← listed-skips m sign u h (ne_eqb _ 1 (λ e. t (and_mask (m / 2 ^ u) 1 ∙ e)))) g

  last : 16 ≤ u → Begun whole out n new (ascii "}")
  last h = rw (listed-ends m sign u h) at g

pub put_numeral-n-requires : goal.put_numeral-n-requires
put_numeral-n-requires c =
    let l = c.loop-user in
    let h : l.user < 16 = omega arith in
    (h, part_room (numeral l.user) (listed_from c.args.mask (code ",") (l.user + 1)) (signed c.args.mask l.sign l.user l.invariant h c.if-mask-user-eq1.true))

pub loop-user-preserved : goal.loop-user-preserved
loop-user-preserved c =
    let l = c.loop-user in
    let h : l.user < 16 = omega arith in
    elim c.if-mask-user-eq1.branch [
      | then-mask-user-eq1 w ↦ rw (w.out-is, w.n-is, w.sign-is)
          (part_put (numeral l.user) (listed_from c.args.mask (code ",") (l.user + 1))
          (signed c.args.mask l.sign l.user l.invariant h w.if-mask-user-eq1.true) w.put_numeral-n.ensures)
      | else-mask-user-eq1 w ↦ rw (w.out-is, w.n-is, w.sign-is) (skipped c.args.mask l.sign l.user l.invariant h w.if-mask-user-eq1.false)
    ]

pub returns : goal.returns
returns c = let l = c.loop-user in all-put (byte_put (last c.args.mask l.sign l.user l.invariant (omega arith)))
