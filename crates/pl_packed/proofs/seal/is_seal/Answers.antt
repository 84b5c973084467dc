use Rattle.std.proofs.Common.{◌≡◌, true, false, take, drop, ap, sym, ◌∙◌}
use Rattle.pl_packed.proofs.Seals.{weighed-of, digest-of, whole-of}
use Rattle.pl_packed.proofs.seal.is_seal.Goals as goal

pub returns-then-not-are_same-2 : goal.returns-then-not-are_same-2
returns-then-not-are_same-2 c = (
  λ t. absurd (let bad : false ≡ true = t in cc),
  λ e.
      let part = weighed-of c.args.bytes.now c.args.head.now c.args.sums.now e in
      let same = c.are_same-2.ensures.1 (c.split_at-2.ensures.back ∙ ap (λ s. drop 8 s) c.split_at.ensures.front ∙ part ∙ sym c.eight_bytes-2.ensures) in
      sym c.if-not-are_same-2.true ∙ same,
)

pub returns : goal.returns
returns c =
    let bytes = c.args.bytes.now in
    let head = c.args.head.now in
    let sums = c.args.sums.now in
    let first = c.split_at-2.ensures.front ∙ ap (λ s. take 8 s) c.split_at.ensures.front in
    let second = c.split_at-2.ensures.back ∙ ap (λ s. drop 8 s) c.split_at.ensures.front in
    let plain = sym first ∙ c.are_same.ensures.0 c.if-not-are_same.false ∙ c.eight_bytes.ensures in
    let weighed = sym second ∙ c.are_same-2.ensures.0 c.if-not-are_same-2.false ∙ c.eight_bytes-2.ensures in (
      λ t. whole-of bytes head sums plain weighed (sym c.split_at.ensures.back ∙ c.are_same-3.ensures.0 t ∙ c.digest.ensures),
      λ e. c.are_same-3.ensures.1 (c.split_at.ensures.back ∙ digest-of bytes head sums e ∙ sym c.digest.ensures),
    )
