use Rattle.rr_pages.proofs.Walks.{chain_found, broken_none}
use Rattle.rr_pages.proofs.laws.standing_chains_are_read.Goals as goal

pub returns : goal.returns
returns c =
    record {
      whole = λ file count reached head pages bytes is. chain_found file count is.low reached is.before head pages bytes is.marks is.has is.data_pages is.apart is.unreached is.chain;
      broken = λ file count reached after head pages bytes damage is broken. broken_none file count is.low reached after is.before head pages bytes damage is.marks is.has is.data_pages is.apart is.unreached is.chain broken;
    }
