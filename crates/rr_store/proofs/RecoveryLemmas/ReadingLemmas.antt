-- Reads of lent commands, one behind another.
use Rattle.std.proofs.Common.{◌≡◌, ℕ, ◌*◌, ◌<◌, Result, Ok, Err, refl, subst, ◌∙◌}
use Rattle.rr_disk.specs.declared.disk.Disk.{Ghosts}
use Rattle.rr_pages.specs.declared.page.TheConstants.{PAGE_BYTES}
use Rattle.rr_reading.specs.declared.lending.commands.Commands.{Commands}
use Rattle.rr_reading.specs.Lending.Chains.{all_of, count_of}
use Rattle.rr_store.specs.declared.recovery.fault.Fault.{Fault}
use Rattle.rr_store.specs.declared.recovery.fault.Fault.TheVariants as F
use Rattle.rr_store.specs.Recovery.Fault.{CountsFault, IsOfDevice, OnDeviceFault}
use Rattle.rr_store.specs.Recovery.Reading.{OnlyReads}

-- nothing was read, and the chains were turned at most
pub turned : {D : Type 0} {seen : Ghosts D} {disk : D} {lent later : Commands} → all_of later.chains ≡ all_of lent.chains → count_of later.chains ≡ count_of lent.chains
    → OnlyReads {T = Unit {0}} seen disk disk lent later (Ok tt)
turned all pages =
    record {
      all = all;
      pages = pages;
      fault = refl;
      honest = λ is. is;
      same_state = λ is. refl;
      same_past = λ is. refl;
      writes = refl;
      syncs = refl;
      device = tt;
      works = λ is. is;
      same_len = refl;
    }

-- the same with another result that tells of the disk alike
pub retold : {D T U : Type 0} {seen : Ghosts D} {old new : D} {lent later : Commands} {told : Result T Fault} {other : Result U Fault} → OnlyReads seen old new lent later told
    → CountsFault (seen.fault_count old) (seen.fault_count new) other → OnDeviceFault other (seen.Works new → seen.file_len old < PAGE_BYTES * count_of lent.chains) → OnlyReads seen old new lent later other
retold reads fault device =
    record {
      all = reads.all;
      pages = reads.pages;
      fault = fault;
      honest = reads.honest;
      same_state = reads.same_state;
      same_past = reads.same_past;
      writes = reads.writes;
      syncs = reads.syncs;
      device = device;
      works = reads.works;
      same_len = reads.same_len;
    }

pub valued : {D T U : Type 0} {seen : Ghosts D} {old new : D} {lent later : Commands} {value : T} {other : U} → OnlyReads seen old new lent later (Ok value) → OnlyReads seen old new lent later (Ok other)
valued reads = retold reads reads.fault tt

pub failed : {D T U : Type 0} {seen : Ghosts D} {old new : D} {lent later : Commands} {fault : Fault} → OnlyReads {T = T} seen old new lent later (Err fault) → OnlyReads {T = U} seen old new lent later (Err fault)
failed reads = retold reads reads.fault reads.device

-- and then a fault that isn't the device's
pub refused : {D T U : Type 0} {seen : Ghosts D} {old new : D} {lent later : Commands} {value : T} (fault : Fault) → (IsOfDevice fault → ⊥) → OnlyReads seen old new lent later (Ok value)
    → OnlyReads {T = U} seen old new lent later (Err fault)
refused (F.Damaged damage) other reads = retold reads reads.fault tt
refused (F.Disk fault) other reads = absurd (other tt)
refused F.OutOfMemory other reads = retold reads reads.fault tt

-- one read behind another that didn't fail
pub reads_on : {D T U : Type 0} {seen : Ghosts D} {first second third : D} {lent middle later : Commands} {value : T} {result : Result U Fault} → OnlyReads seen first second lent middle (Ok value)
    → OnlyReads seen second third middle later result → OnlyReads seen first third lent later result
reads_on {seen} {first} {second} {third} {lent} {result} before then =
    record {
      all = then.all ∙ before.all;
      pages = then.pages ∙ before.pages;
      fault = subst (λ (n : ℕ). CountsFault n (seen.fault_count third) result) before.fault then.fault;
      honest = λ is. before.honest (then.honest is);
      same_state = λ is. then.same_state is ∙ before.same_state (then.honest is);
      same_past = λ is. then.same_past is ∙ before.same_past (then.honest is);
      writes = then.writes ∙ before.writes;
      syncs = then.syncs ∙ before.syncs;
      device =
          subst (λ (n : ℕ). OnDeviceFault result (seen.Works third → n < PAGE_BYTES * count_of lent.chains)) before.same_len
          (subst (λ (n : ℕ). OnDeviceFault result (seen.Works third → seen.file_len second < PAGE_BYTES * n)) before.pages then.device);
      works = λ is. before.works (then.works is);
      same_len = then.same_len ∙ before.same_len;
    }
