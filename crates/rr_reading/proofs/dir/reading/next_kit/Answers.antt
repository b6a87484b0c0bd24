use Rattle.std.proofs.Common.{◌≡◌, true, arith, ap, sym, ◌∙◌, subst, length, length-append}
use Rattle.rr_reading.specs.Dir.Directory.{spelled_kit, IsKit}
use Rattle.rr_reading.proofs.DirLemmas.TableLemmas.{HasChains-kit, cut_kit, length-spelled_kit}
use Rattle.rr_reading.proofs.dir.reading.next_kit.Goals as goal

pub returns-in_err-kit : goal.returns-in_err-kit
returns-in_err-kit c =
    rw c.from_residual.ensures (λ kit rest is same. omega (arith, ap length same, length-append (spelled_kit kit) rest, length-spelled_kit kit, c.in_err-kit.ensures))

pub returns-else-are_texts : goal.returns-else-are_texts
returns-else-are_texts c kit rest is same =
    let one = (cut_kit c.in_ok-kit.kit kit c.next_kit_chains.new.cursor rest c.in_ok-kit.ensures.0 (HasChains-kit kit is) (sym c.in_ok-kit.ensures.1 ∙ same)).0 in
    let here : IsKit c.in_ok-kit.kit = subst IsKit (sym one) is in
    let texts : c.are_texts.result ≡ true = c.are_texts.ensures.1 (here.is_chart.short, here.is_roster.short, here.is_tiles.short, here.is_board.short) in
    absurd (cc)
