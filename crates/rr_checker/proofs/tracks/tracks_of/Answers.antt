use Rattle.rr_checker.proofs.tracks.tracks_of.Goals as goal

pub returns : goal.returns
returns c = record {
  walks = record {
    all = c.in_ok-steps.ensures {u = tt};
    rows = rw c.deref.ensures.value at (c.in_ok-graph.ensures {u = tt});
    first = rw c.deref-2.ensures.value at (c.in_ok-starts.ensures {u = tt});
  };
  arrivals = rw c.deref-3.ensures.value at (c.in_ok-arrivals.ensures {u = tt});
  ranked = rw c.deref-4.ensures.value at (c.in_ok-centres.ensures {u = tt});
}
