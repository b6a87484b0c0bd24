use Rattle.rr_laws.proofs.Revenues.{of_the_last_run, revenues_are_of_the_book}
use Rattle.rr_laws.proofs.revenues_are_of_the_book.Goals as goal

pub returns : goal.returns
returns c = record { told = revenues_are_of_the_book; last_run = of_the_last_run }
