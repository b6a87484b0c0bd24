-- What the search over a net gives, in words.
use Rattle.std.proofs.Common.{◌≡◌, ℕ, zero, suc, ◌<◌, ◌≤◌, ◌⊎◌, List, length, refl, sym, ◌∙◌, ap, subst, inl, inr, arith}
use Rattle.rr_kit.specs.Board.Plan.{Plan}
use Rattle.rr_books.specs.Book.{Book}
use Rattle.rr_desk.specs.Incomes.{dollars}
use Rattle.rr_orders.specs.Order.{text}
use Rattle.rr_orders.specs.Texts.{IsCertificateText, IsSheetText}
use Rattle.rr_orders.specs.declared.order.Order.TheVariants.{RunBest}
use Rattle.rr_roster.specs.declared.company.Corp.{Corp}
use Rattle.rr_routes.specs.Net.{Net}
use Rattle.rr_routes.specs.declared.certificate.CertTree.{CertTree}
use Rattle.rr_routes.specs.declared.certificate.TheConstants.{MOST_NODES}
use Rattle.rr_referee.specs.Revenue.{revenue_of}
use Rattle.rr_running.specs.Running.{is_best, net_now}
use Rattle.rr_search.specs.Found.{IsCertified}
use Rattle.rr_search.specs.Whole.{whole_size}
use Rattle.rr_search.specs.declared.fault.Fault.{Fault}
use Rattle.rr_search.specs.declared.fault.Fault.TheVariants.{NoCertificate, OutOfMemory}
use Rattle.rr_routes.specs.Sheets.Certificate.{Spells, certificate_text, words_of}
use Rattle.rr_routes.specs.Sheets.Sheet.{SpellsSheet}
use Rattle.rr_routes.specs.declared.sheets.sheet.TrainWord.{TrainWord}
use Rattle.rr_routes.proofs.SheetsLemmas.FormLemmas.{form_decided, sheet_decided, sheet_in-spelled}
use Rattle.rr_routes.proofs.SheetsLemmas.SameLemmas.{accepted_spelled}
use Rattle.rr_tiles.specs.declared.supply.Supply.{Supply}
use Rattle.rr_search.specs.BestRun.Worded.{HasLargeTree, IsBestOn, IsInWords, MayLackRun, MayRefuse, WordedRun}
use Rattle.rr_search.proofs.BestRunLemmas.Short.{sheet_short, tree_short}
use Rattle.rr_search.proofs.BestRunLemmas.Staying.{has_sheet}

-- the tree that splits every link has more nodes than there are links
more_nodes : (trains links : ℕ) → links < whole_size trains links
unfolding whole_size
more_nodes trains zero = omega arith
more_nodes trains (suc links) = let before = more_nodes trains links in omega (arith, before)

pub large_tree : (net : Net) → 9999999999 < length net.links → HasLargeTree net
large_tree net many = let nodes = more_nodes (length net.trains) (length net.links) in omega (arith, nodes, many)

-- what was found, in words, is a best run
pub best_in_words : (net : Net) (c : Corp) (sheet : List TrainWord) (tree : CertTree) (run : WordedRun) → length net.links ≤ 9999999999 → length net.trains ≤ 120
    → IsCertified net MOST_NODES sheet tree → IsInWords net c sheet tree run → IsBestOn net c run
best_in_words net c sheet tree run few trains found worded =
    let spells : SpellsSheet run.sheet sheet = record { short = sheet_short net few sheet found.revenue found.legal; spelled = worded.of_sheet } in
    let written : Spells run.certificate (length net.trains) tree =
    subst (λ (bytes : List ℕ). Spells bytes (length net.trains) tree) (sym worded.of_tree)
    (accepted_spelled net found.revenue tree found.accepted (tree_short net few found.revenue trains tree found.accepted)) in
    let is_sheet : IsSheetText run.sheet = (sheet_decided run.sheet).1 (sheet, spells) in
    let is_certificate : IsCertificateText run.certificate = (form_decided run.certificate).1 (words_of tree, written.words) in
    record {
      spelled = record {
        is_order = (is_sheet, is_certificate);
        spelled = worded.words ∙ ap (λ (s : List ℕ). text (RunBest c s (certificate_text tree))) (sym worded.of_sheet)
            ∙ ap (λ (t : List ℕ). text (RunBest c run.sheet t)) (sym worded.of_tree);
      };
      lawful = is_best sheet found.revenue spells found.legal (tree, written, found.accepted) refl;
      earns = worded.earns ∙ ap (λ (trains : List TrainWord). dollars (revenue_of net trains)) (sym (sheet_in-spelled run.sheet sheet spells));
    }

-- on a board's net the search lacks no sheet
pub sheets_never_lack : (plan : Plan) (tiles : List Supply) (book : Book) (c : Corp) (most : ℕ) (fault : Fault) → let net = net_now plan tiles book c in
    MayRefuse net c most fault → (fault ≡ OutOfMemory) ⊎ ((fault ≡ NoCertificate) × MayLackRun net c most)
sheets_never_lack plan tiles book c most fault (inl memory) = inl memory
sheets_never_lack plan tiles book c most fault (inr (is, inl none)) = absurd (has_sheet plan tiles book c none)
sheets_never_lack plan tiles book c most fault (inr (is, inr lacks)) = inr (is, lacks)
