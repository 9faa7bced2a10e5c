-- What the fields of a correction's line say of the finding and of the method. Assumes nothing.
use Rattle.std.specs.Prelude.{ℕ, List, Ok, Result}
use Rattle.method.specs.declared.finding.Finding.{Finding}
use Rattle.events.specs.declared.event.Basis.{Basis}
use Rattle.events.specs.declared.event.Basis.TheVariants as basis
use Rattle.events.specs.declared.letters.MethodName.{MethodName}
use Rattle.events.specs.declared.letters.MethodName.TheVariants.{TestMeter, PreviousThree, LaterThree, ContractDemand}
use Rattle.events.specs.declared.fault.ReaderFault.{ReaderFault}
use Rattle.events.specs.Figures.{figure_of, kwh_of, kva_of}
use Rattle.events.specs.Letters.{cause_of, side_of, known_of, method_of}
use Rattle.events.specs.Reads.{read}

-- cause,side,notice,known,first,last, and the fields after them
abbrev pub finding_in : List (ℕ × List ℕ) → Result (Finding × List (ℕ × List ℕ)) ReaderFault
finding_in fs =
    read cause_of fs (λ cause fs. read side_of fs (λ side fs. read figure_of fs (λ notice fs.
    read known_of fs (λ known fs. read figure_of fs (λ first fs. read figure_of fs (λ last fs.
    Ok (record { cause = cause; side = side; notice = notice; ascertained = known; span = record { first = first; last = last } }, fs)))))))

-- a method's own figures: m,t of M, f of P and of L, kVA,utilization,power factor,load factor,s of D
abbrev pub basis_by : MethodName → List (ℕ × List ℕ) → Result (Basis × List (ℕ × List ℕ)) ReaderFault
basis_by TestMeter fs =
    read kwh_of fs (λ shown fs. read kwh_of fs (λ tested fs.
    Ok (basis.TestMeter shown tested, fs)))
basis_by PreviousThree fs = read figure_of fs (λ from fs. Ok (basis.PreviousThree from, fs))
basis_by LaterThree fs = read figure_of fs (λ from fs. Ok (basis.LaterThree from, fs))
basis_by ContractDemand fs =
    read kva_of fs (λ kva fs. read figure_of fs (λ utilization fs. read figure_of fs (λ power fs.
    read figure_of fs (λ load fs. read figure_of fs (λ peak fs.
    Ok (basis.ContractDemand kva utilization power load peak, fs))))))

-- the method's letter and its figures, and the fields after them
abbrev pub basis_in : List (ℕ × List ℕ) → Result (Basis × List (ℕ × List ℕ)) ReaderFault
basis_in fs = read method_of fs basis_by
