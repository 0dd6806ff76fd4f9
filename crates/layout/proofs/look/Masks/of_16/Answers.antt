use Rattle.std.proofs.Common.{ℕ, cond, ltb, refl, eqb, not, arith, w8}
use Rattle.std.proofs.lemmas.Simd.{zip2_splat, zip2_splat_left, zip2_of_maps, length-chunk, chunk-fits}
use Rattle.texts.specs.Bytes.{part, printable}
use Rattle.layout.proofs.Looks.{mask_is}
use Rattle.layout.proofs.look.Masks.of_16.Goals as goal

pub returns : goal.returns
returns c =
    let v = part c.args.at 16 c.args.src.now in
    let long = length-chunk c.args.at 16 c.args.src.now c.requires in
    let fits = chunk-fits w8 c.args.at 16 c.args.src.now c.type_inv.src in (
      mask_is (λ b. not (printable b)) _ v _ (omega (arith, long)) fits
          (zip2_of_maps _ _ _ v (zip2_splat _ v 16 32 long) (zip2_splat_left {X = ℕ} {Z = ℕ} (λ a b. cond (ltb a b) 255 0) 126 16 v long)) refl,
      mask_is (λ b. not (eqb b 0)) _ v _ (omega (arith, long)) fits (zip2_splat _ v 16 0 long) refl,
    )
