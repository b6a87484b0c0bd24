-- A command has one verdict.
use Rattle.std.specs.Prelude.{◌≡◌, ℕ, List, Option, None, Some}
use Rattle.std.proofs.Common.{sym, ◌∙◌, inl, inr}
use Rattle.rr_roster.specs.declared.company.Corp.{Corp}
use Rattle.rr_roster.specs.Terms.{tokens_of}
use Rattle.rr_books.specs.declared.acts.Act.{Act}
use Rattle.rr_books.specs.declared.acts.Act.TheVariants as A
use Rattle.rr_books.specs.Book.{Book}
use Rattle.rr_kit.specs.declared.kit.Kit.{Kit}
use Rattle.rr_books.specs.declared.refusal.Refusal.{Refusal}
use Rattle.rr_lay.specs.JudgingLaws.{one_lay_verdict, one_station_verdict}
use Rattle.rr_lay.specs.Position.{position_of}
use Rattle.rr_running.specs.Running.{IsBestRunVerdict, IsRunVerdict}
use Rattle.rr_operate.specs.Rows.{After, IsEndVerdict, IsRowVerdict, first_verdict, lay_of, station_of}
use Rattle.rr_operate.specs.TurnLaws.{OneVerdict}

-- a run has one verdict, alone and with a certificate
abbrev pub OneRunVerdict : Type 0
OneRunVerdict = (kit : Kit) (book : Book) (c : Corp) (words : List ℕ) (one other : Option Refusal) → IsRunVerdict kit book c words one → IsRunVerdict kit book c words other → one ≡ other

abbrev pub OneBestVerdict : Type 0
OneBestVerdict = (kit : Kit) (book : Book) (c : Corp) (words certificate : List ℕ) (one other : Option Refusal) → IsBestRunVerdict kit book c words certificate one → IsBestRunVerdict kit book c words certificate other → one ≡ other

end_same : (kit : Kit) (book : Book) (c : Corp) (one other : Option Refusal) → IsEndVerdict kit book c one → IsEndVerdict kit book c other → one ≡ other
end_same kit book c one other (inl a) (inl b) = a.1 ∙ sym b.1
end_same kit book c one other (inl a) (inr b) = absurd (a.0 b.0)
end_same kit book c one other (inr a) (inl b) = absurd (b.0 a.0)
end_same kit book c one other (inr a) (inr b) = a.1 ∙ sym b.1

row_same : OneRunVerdict → OneBestVerdict → (kit : Kit) (book : Book) (act : Act) (one other : Option Refusal) → IsRowVerdict kit book act one → IsRowVerdict kit book act other → one ≡ other
row_same run best kit book (A.Lay c hex tile turn) one other a b =
    one_lay_verdict kit.board kit.tiles (position_of book) c (lay_of hex tile turn) one other a b
row_same run best kit book (A.Station c hex centre) one other a b =
    one_station_verdict kit.board kit.tiles (tokens_of kit.roster c) (position_of book) (station_of c hex centre) one other a b
row_same run best kit book (A.Run c sheet) one other a b = run kit book c sheet one other a b
row_same run best kit book (A.RunBest c sheet certificate) one other a b = best kit book c sheet certificate one other a b
row_same run best kit book (A.End c) one other a b = end_same kit book c one other a b
row_same run best kit book (A.Open names) one other a b = a ∙ sym b
row_same run best kit book (A.BuyPrivate s) one other a b = a ∙ sym b
row_same run best kit book (A.Bid s p amount) one other a b = a ∙ sym b
row_same run best kit book (A.Pass s) one other a b = a ∙ sym b
row_same run best kit book (A.Par s c price) one other a b = a ∙ sym b
row_same run best kit book (A.BuyShare s c source) one other a b = a ∙ sym b
row_same run best kit book (A.Sell s c count) one other a b = a ∙ sym b
row_same run best kit book (A.Swap s source) one other a b = a ∙ sym b
row_same run best kit book (A.Done s) one other a b = a ∙ sym b
row_same run best kit book (A.PayOut c) one other a b = a ∙ sym b
row_same run best kit book (A.Hold c) one other a b = a ∙ sym b
row_same run best kit book (A.BuyTrain c kind source) one other a b = a ∙ sym b
row_same run best kit book (A.BuyTrainFrom c kind seller price s t) one other a b = a ∙ sym b
row_same run best kit book (A.Trade c kind) one other a b = a ∙ sym b
row_same run best kit book (A.Discard c kind) one other a b = a ∙ sym b
row_same run best kit book (A.TakePrivate c p price) one other a b = a ∙ sym b
row_same run best kit book (A.Force c) one other a b = a ∙ sym b
row_same run best kit book (A.Raise s c count) one other a b = a ∙ sym b
row_same run best kit book (A.Bankrupt s) one other a b = a ∙ sym b

after_same : (first : Option Refusal) (Next : Option Refusal → Type 0) (one other : Option Refusal) → (Next one → Next other → one ≡ other) → After first Next one → After first Next other → one ≡ other
after_same None Next one other same a b = same a b
after_same (Some fault) Next one other same a b = a ∙ sym b

pub one_verdict : OneRunVerdict → OneBestVerdict → OneVerdict
one_verdict run best kit book revenue act one other a b =
    after_same (first_verdict kit book revenue act) (IsRowVerdict kit book act) one other (row_same run best kit book act one other) a b
