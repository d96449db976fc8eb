-- THE C FACE has one outcome for each call: its number, its place, each stored result, and every lent cell. From the theorem of the
-- call behind it, by one law. Assumes nothing.
use mathlib.Core.Path.{◌≡◌, sym, ap, ◌∙◌}
use mathlib.Core.Bool.{Bool, false}
use mathlib.Core.List.{List}
use Prim.Native.Nat.{ℕ}
use lib.Ieee.{Float}
use Rattle.answers.specs.Paper.{Reply, paper, given}
use Rattle.complex.specs.declared.Complex.{Complex}
use Rattle.told.specs.Told.{Exported, ExportedWith, ExportedResult}
use Rattle.told.proofs.Theorems.{exported-bare-one, exported-one, exported-with-one, exported-result-one, exported-result-value-one}
use Rattle.qubits.specs.Lists.{qubit_set, subsystem}
use Rattle.qubits.proofs.Theorems.{validate-qubit-set-one, validate-subsystem-one}
use Rattle.qubit_offsets.specs.Calls.{RowOffsets, TracedBase}
use Rattle.qubit_offsets.proofs.Theorems.{row-offsets-one, traced-base-one}
use Rattle.cut_sides.specs.Sides.{SmallerSide}
use Rattle.cut_sides.proofs.Theorems.{smaller-side-one}
use Rattle.cuts.specs.Cut.{CutMatrix}
use Rattle.cuts.proofs.Theorems.{cut-matrix-one}
use Rattle.density_entries.specs.Squares.{mirrored}
use Rattle.densities.specs.Square.{square_answer, InPlace}
use Rattle.densities.specs.Density.{Density}
use Rattle.densities.proofs.Theorems.{dense-reduced-density-one, mirror-lower-triangle-one}
use Rattle.density_trace.specs.Trace.{normalize_answer, normalized}
use Rattle.density_trace.proofs.Theorems.{normalize-trace-one}
use Rattle.density_block.specs.Factor.{block_answer, multiplied}
use Rattle.density_block.proofs.Theorems.{multiply-block-factor-one}
use Rattle.density_recount.specs.Recount.{DensityFromCut}
use Rattle.density_recount.proofs.Theorems.{density-from-cut-one}
use Rattle.pages.specs.Agree.{Says, pages_answer, pages_same}
use Rattle.pages.proofs.Theorems.{pages-agree-one}
use Rattle.qr.specs.Call.{Factorized}
use Rattle.qr.proofs.Theorems.{factorize-gram-schmidt-one}
use Rattle.sweeps.specs.declared.Sweeps.{Sweeps}
use Rattle.sweeps.specs.Sweeping.{no_sweeps}
use Rattle.factored.specs.declared.Counted.{Counted}
use Rattle.factored.specs.Factored.{no_count}
use Rattle.svd.specs.Svd.{Svd}
use Rattle.svd.proofs.Theorems.{svd-jacobi-one}
use Rattle.finish.specs.Outcome.{Outcome}
use Rattle.finish.proofs.Theorems.{finish-schmidt-values-one}
use Rattle.spectra.specs.Outcomes.{Eigenvalues}
use Rattle.spectra.specs.Density.{DensityValues}
use Rattle.spectra.proofs.Theorems.{hermitian-eigenvalues-one, schmidt-values-from-density-one}
use Rattle.hermitian_eigen.specs.Hermitian.{Eigen}
use Rattle.hermitian_eigen.proofs.Theorems.{hermitian-eigen-one}
use Rattle.numbers.specs.Root.{sqrt_of}
use Rattle.exact_roots.specs.Exact.{exact_root}
use Rattle.cut_values.specs.Schmidt.{Schmidt, no_cut}
use Rattle.cut_values.specs.declared.CutCounted.{CutCounted}
use Rattle.cut_values.proofs.Theorems.{dense-schmidt-values-one}
use Rattle.profiles.specs.Profile.{CutProfile}
use Rattle.profiles.proofs.Theorems.{cut-profile-one}
use Rattle.entropy_bands.specs.declared.Entropy.{Entropy}
use Rattle.entropy_bands.specs.Bands.{EntropyBand, no_entropy}
use Rattle.entropy_bands.proofs.Theorems.{entropy-band-one}
use Rattle.plan_numbers.specs.Numbers.{plan_at}
use Rattle.plan_matrix.specs.PlannedCut.{PlannedCut}
use Rattle.plan_matrix.proofs.Theorems.{planned-cut-matrix-one}
use Rattle.plan_values.specs.PlannedValues.{PlannedValues}
use Rattle.plan_values.proofs.Theorems.{planned-schmidt-values-one}
use Rattle.plan_density.specs.PlannedDensity.{PlannedDensity}
use Rattle.plan_density.proofs.Theorems.{planned-reduced-density-one}
use Rattle.cutfile_result.specs.Result.{file_reply}
use Rattle.certificates.specs.Certificate.{certificate_of}
use Rattle.certificates.specs.declared.Written.{Written}
use Rattle.certificate_pages.specs.Pages.{pages_of, Called}
use Rattle.certificate_pages.proofs.Theorems.{print-certificate-one, print-pages-one}
use Rattle.site_ranks.specs.Ranks.{Ranked}
use Rattle.site_ranks.proofs.Theorems.{ranked-one}
use Rattle.sites.specs.Calls.{Filled}
use Rattle.sites.proofs.Theorems.{fill_one}
use Rattle.chains.specs.Chains.{ChainOfSites}
use Rattle.chains.proofs.Theorems.{chain-of-sites-one}
use Rattle.slabs.specs.Slab.{Put, Dropped, Replaced}
use Rattle.slabs.proofs.Theorems.{put_one, drop-one, replace-one}
use Rattle.lots.specs.Lot.{Lot}
use Rattle.lots.proofs.Theorems.{lot-sheet-one}
use Rattle.plan_changes.specs.Changes.{adding, dropping, switching}
use Rattle.plan_calls.specs.Stored.{CutPlanStored, ChangeStored}
use Rattle.plan_calls.proofs.Theorems.{store-cut-plan-one, change-stored-one}
use Rattle.countersign.specs.Verdict.{Says as Verdict, found, Countersign}
use Rattle.countersign.proofs.Theorems.{countersign-one}

-- Only one outcome meets the contract of `zg_sqrt_marked`.
pub zg-sqrt-marked-one : (x r r' : Float) (exact exact' : Bool)
    → (r ≡ sqrt_of x) × (exact ≡ exact_root x) → (r' ≡ sqrt_of x) × (exact' ≡ exact_root x) → (r ≡ r') × (exact ≡ exact')
zg-sqrt-marked-one x r r' exact exact' a b = (a.0 ∙ sym b.0, a.1 ∙ sym b.1)

-- Only one outcome meets the contract of `zg_validate_qubit_set`.
pub zg-validate-qubit-set-one : (l : List ℕ) (n : ℕ) {number place number' place' : ℕ}
    → Exported (λ x. paper x ≡ qubit_set n l) number place → Exported (λ x. paper x ≡ qubit_set n l) number' place'
    → (number ≡ number') × (place ≡ place')
zg-validate-qubit-set-one l n = exported-bare-one (λ x y c d. validate-qubit-set-one l n x y c d)

-- Only one outcome meets the contract of `zg_validate_subsystem`.
pub zg-validate-subsystem-one : (l : List ℕ) (n : ℕ) {number place number' place' : ℕ}
    → Exported (λ x. paper x ≡ subsystem n l) number place → Exported (λ x. paper x ≡ subsystem n l) number' place'
    → (number ≡ number') × (place ≡ place')
zg-validate-subsystem-one l n = exported-bare-one (λ x y c d. validate-subsystem-one l n x y c d)

-- Only one outcome meets the contract of `zg_row_offsets`.
pub zg-row-offsets-one : (l : List ℕ) (n cap : ℕ) (out : List ℕ) (out' out'' : List ℕ) {number place number' place' : ℕ}
    → Exported (λ x. RowOffsets l n cap out x out') number place → Exported (λ x. RowOffsets l n cap out x out'') number' place'
    → (number ≡ number') × (place ≡ place') × (out' ≡ out'')
zg-row-offsets-one l n cap out out' out'' =
    exported-one (λ x y c d. let e = row-offsets-one l n cap out x y out' out'' c d in (e.0, e.1))

-- Only one outcome meets the contract of `zg_traced_base`.
pub zg-traced-base-one : (e : ℕ) (l : List ℕ) (n cap : ℕ) {number place number' place' : ℕ} {value value' : ℕ}
    → ExportedResult (given 0) (λ k. TracedBase e l n cap k) number place value
    → ExportedResult (given 0) (λ k. TracedBase e l n cap k) number' place' value'
    → (number ≡ number') × (place ≡ place') × (value ≡ value')
zg-traced-base-one e l n cap = exported-result-value-one (λ k l' c d. traced-base-one e l n cap k l' c d)

-- Only one outcome meets the contract of `zg_smaller_side`.
pub zg-smaller-side-one : (l : List ℕ) (n cap : ℕ) (others : List ℕ) (others' others'' : List ℕ) {number place number' place' : ℕ}
    → Exported (λ x. SmallerSide l n cap others x others') number place → Exported (λ x. SmallerSide l n cap others x others'') number' place'
    → (number ≡ number') × (place ≡ place') × (others' ≡ others'')
zg-smaller-side-one l n cap others others' others'' =
    exported-one (λ x y c d. let e = smaller-side-one l n cap others x y others' others'' c d in (e.0, e.1))

-- Only one outcome meets the contract of `zg_cut_matrix`.
pub zg-cut-matrix-one : (state : List Float) (n : ℕ) (l : List ℕ) (cap : ℕ) (out : List Float) (out' out'' : List Float) {number place number' place' : ℕ}
    → Exported (λ x. CutMatrix state n l cap out x out') number place → Exported (λ x. CutMatrix state n l cap out x out'') number' place'
    → (number ≡ number') × (place ≡ place') × (out' ≡ out'')
zg-cut-matrix-one state n l cap out out' out'' =
    exported-one (λ x y c d. let e = cut-matrix-one state n l cap out x y out' out'' c d in (e.0, e.1))

-- Only one outcome meets the contract of `zg_mirror_lower_triangle`.
pub zg-mirror-lower-triangle-one : (rho : List Float) (dim : ℕ) (rho' rho'' : List Float) {number place number' place' : ℕ}
    → Exported (λ x. InPlace (square_answer rho dim) (mirrored rho dim) rho x rho') number place → Exported (λ x. InPlace (square_answer rho dim) (mirrored rho dim) rho x rho'') number' place'
    → (number ≡ number') × (place ≡ place') × (rho' ≡ rho'')
zg-mirror-lower-triangle-one rho dim rho' rho'' =
    exported-one (λ x y c d. let e = mirror-lower-triangle-one rho dim x y rho' rho'' c d in (e.0, e.1))

-- Only one outcome meets the contract of `zg_dense_reduced_density`.
pub zg-dense-reduced-density-one : (state : List Float) (n : ℕ) (l : List ℕ) (cap : ℕ) (out scratch : List Float) (out' out'' : List Float) (scratch' scratch'' : List Float) {number place number' place' : ℕ}
    → Exported (λ x. Density state n l cap out scratch x out' scratch') number place → Exported (λ x. Density state n l cap out scratch x out'' scratch'') number' place'
    → (number ≡ number') × (place ≡ place') × ((out' ≡ out'') × (scratch' ≡ scratch''))
zg-dense-reduced-density-one state n l cap out scratch out' out'' scratch' scratch'' =
    exported-one (λ x y c d. let e = dense-reduced-density-one state n l cap out scratch x y out' out'' scratch' scratch'' c d in (e.0, (e.1, e.2)))

-- Only one outcome meets the contract of `zg_normalize_trace`.
pub zg-normalize-trace-one : (rho : List Float) (dim : ℕ) (rho' rho'' : List Float) {number place number' place' : ℕ}
    → Exported (λ x. InPlace (normalize_answer rho dim) (normalized rho dim) rho x rho') number place → Exported (λ x. InPlace (normalize_answer rho dim) (normalized rho dim) rho x rho'') number' place'
    → (number ≡ number') × (place ≡ place') × (rho' ≡ rho'')
zg-normalize-trace-one rho dim rho' rho'' =
    exported-one (λ x y c d. let e = normalize-trace-one rho dim x y rho' rho'' c d in (e.0, e.1))

-- Only one outcome meets the contract of `zg_multiply_block_factor`.
pub zg-multiply-block-factor-one : (rho : List Float) (dim : ℕ) (l : List ℕ) (factor : List Float) (side : ℕ) (rho' rho'' : List Float) {number place number' place' : ℕ}
    → Exported (λ x. InPlace (block_answer rho dim l factor side) (multiplied rho dim l factor side) rho x rho') number place → Exported (λ x. InPlace (block_answer rho dim l factor side) (multiplied rho dim l factor side) rho x rho'') number' place'
    → (number ≡ number') × (place ≡ place') × (rho' ≡ rho'')
zg-multiply-block-factor-one rho dim l factor side rho' rho'' =
    exported-one (λ x y c d. let e = multiply-block-factor-one rho dim l factor side x y rho' rho'' c d in (e.0, e.1))

-- Only one outcome meets the contract of `zg_density_from_cut`.
pub zg-density-from-cut-one : (matrix : List Float) (n : ℕ) (l : List ℕ) (cap : ℕ) (out : List Float) (out' out'' : List Float) {number place number' place' : ℕ}
    → Exported (λ x. DensityFromCut matrix n l cap out x out') number place → Exported (λ x. DensityFromCut matrix n l cap out x out'') number' place'
    → (number ≡ number') × (place ≡ place') × (out' ≡ out'')
zg-density-from-cut-one matrix n l cap out out' out'' =
    exported-one (λ x y c d. let e = density-from-cut-one matrix n l cap out x y out' out'' c d in (e.0, e.1))

-- Only one outcome meets the contract of `zg_pages_agree`.
pub zg-pages-agree-one : (state : List Float) (n : ℕ) (l : List ℕ) (cap : ℕ) {number place number' place' : ℕ} {value value' : Bool}
    → ExportedResult (given false) (λ k. Says (pages_answer state n l cap) (pages_same state n l) k) number place value
    → ExportedResult (given false) (λ k. Says (pages_answer state n l cap) (pages_same state n l) k) number' place' value'
    → (number ≡ number') × (place ≡ place') × (value ≡ value')
zg-pages-agree-one state n l cap = exported-result-value-one (λ k l' c d. pages-agree-one state n l cap k l' c d)

-- Only one outcome meets the contract of `zg_factorize_gram_schmidt`.
pub zg-factorize-gram-schmidt-one : (a : List Float) (rows cols : ℕ) (q r scratch : List Float) (q' q'' : List Float) (r' r'' : List Float) (scratch' scratch'' : List Float) {number place number' place' : ℕ} {value value' : ℕ}
    → ExportedResult (given 0) (λ k. Factorized a rows cols q r scratch k q' r' scratch') number place value
    → ExportedResult (given 0) (λ k. Factorized a rows cols q r scratch k q'' r'' scratch'') number' place' value'
    → (number ≡ number') × (place ≡ place') × (value ≡ value') × ((q' ≡ q'') × (r' ≡ r'') × (scratch' ≡ scratch''))
zg-factorize-gram-schmidt-one a rows cols q r scratch q' q'' r' r'' scratch' scratch'' =
    exported-result-one (λ k l' c d. let e = factorize-gram-schmidt-one a rows cols q r scratch k l' q' r' scratch' q'' r'' scratch'' c d in (e.0, (e.1, e.2, e.3)))

-- Only one outcome meets the contract of `zg_svd_jacobi`.
pub zg-svd-jacobi-one : (a : List Float) (m n : ℕ) (u s vt scratch : List Float) (u' u'' : List Float) (s' s'' : List Float) (vt' vt'' : List Float) (scratch' scratch'' : List Float) {number place number' place' : ℕ} {value value' : ℕ × Bool × ℕ}
    → ExportedResult {A = Sweeps} {W = ℕ × Bool × ℕ} (λ k. ((given no_sweeps k).begun, (given no_sweeps k).quiet, (given no_sweeps k).turned)) (λ k. Svd a m n u s vt scratch k u' s' vt' scratch') number place value
    → ExportedResult {A = Sweeps} {W = ℕ × Bool × ℕ} (λ k. ((given no_sweeps k).begun, (given no_sweeps k).quiet, (given no_sweeps k).turned)) (λ k. Svd a m n u s vt scratch k u'' s'' vt'' scratch'') number' place' value'
    → (number ≡ number') × (place ≡ place') × (value ≡ value') × ((u' ≡ u'') × (s' ≡ s'') × (vt' ≡ vt'') × (scratch' ≡ scratch''))
zg-svd-jacobi-one a m n u s vt scratch u' u'' s' s'' vt' vt'' scratch' scratch'' =
    exported-result-one (λ k l' c d. let e = svd-jacobi-one a m n u s vt scratch k l' u' s' vt' scratch' u'' s'' vt'' scratch'' c d in (e.0, (e.1, e.2, e.3, e.4)))

-- Only one outcome meets the contract of `zg_finish_schmidt_values`.
pub zg-finish-schmidt-values-one : (values out : List Float) (out' out'' : List Float) {number place number' place' : ℕ} {value value' : ℕ}
    → ExportedResult (given 0) (λ k. Outcome values out k out') number place value
    → ExportedResult (given 0) (λ k. Outcome values out k out'') number' place' value'
    → (number ≡ number') × (place ≡ place') × (value ≡ value') × (out' ≡ out'')
zg-finish-schmidt-values-one values out out' out'' =
    exported-result-one (λ k l' c d. let e = finish-schmidt-values-one values out k l' out' out'' c d in (e.0, e.1))

-- Only one outcome meets the contract of `zg_hermitian_eigenvalues`.
pub zg-hermitian-eigenvalues-one : (a : List Float) (dim : ℕ) (out scratch : List Float) (out' out'' : List Float) (scratch' scratch'' : List Float) {number place number' place' : ℕ} {value value' : ℕ × Bool × ℕ}
    → ExportedResult {A = Sweeps} {W = ℕ × Bool × ℕ} (λ k. ((given no_sweeps k).begun, (given no_sweeps k).quiet, (given no_sweeps k).turned)) (λ k. Eigenvalues a dim out scratch k out' scratch') number place value
    → ExportedResult {A = Sweeps} {W = ℕ × Bool × ℕ} (λ k. ((given no_sweeps k).begun, (given no_sweeps k).quiet, (given no_sweeps k).turned)) (λ k. Eigenvalues a dim out scratch k out'' scratch'') number' place' value'
    → (number ≡ number') × (place ≡ place') × (value ≡ value') × ((out' ≡ out'') × (scratch' ≡ scratch''))
zg-hermitian-eigenvalues-one a dim out scratch out' out'' scratch' scratch'' =
    exported-result-one (λ k l' c d. let e = hermitian-eigenvalues-one a dim out scratch k l' out' out'' scratch' scratch'' c d in (e.0, (e.1, e.2)))

-- Only one outcome meets the contract of `zg_schmidt_values_from_density`.
pub zg-schmidt-values-from-density-one : (rho : List Float) (dim : ℕ) (out scratch : List Float) (out' out'' : List Float) (scratch' scratch'' : List Float) {number place number' place' : ℕ} {value value' : ℕ × ℕ × Bool × ℕ}
    → ExportedResult {A = Counted} {W = ℕ × ℕ × Bool × ℕ} (λ k. ((given no_count k).count, (given no_count k).sweeps.begun, (given no_count k).sweeps.quiet, (given no_count k).sweeps.turned)) (λ k. DensityValues rho dim out scratch k out' scratch') number place value
    → ExportedResult {A = Counted} {W = ℕ × ℕ × Bool × ℕ} (λ k. ((given no_count k).count, (given no_count k).sweeps.begun, (given no_count k).sweeps.quiet, (given no_count k).sweeps.turned)) (λ k. DensityValues rho dim out scratch k out'' scratch'') number' place' value'
    → (number ≡ number') × (place ≡ place') × (value ≡ value') × ((out' ≡ out'') × (scratch' ≡ scratch''))
zg-schmidt-values-from-density-one rho dim out scratch out' out'' scratch' scratch'' =
    exported-result-one (λ k l' c d. let e = schmidt-values-from-density-one rho dim out scratch k l' out' out'' scratch' scratch'' c d in (e.0, (e.1, e.2)))

-- Only one outcome meets the contract of `zg_hermitian_eigen`.
pub zg-hermitian-eigen-one : (matrix : List Float) (dim : ℕ) (values vectors scratch : List Float) (values' values'' : List Float) (vectors' vectors'' : List Float) (scratch' scratch'' : List Float) {number place number' place' : ℕ} {value value' : ℕ × Bool × ℕ}
    → ExportedResult {A = Sweeps} {W = ℕ × Bool × ℕ} (λ k. ((given no_sweeps k).begun, (given no_sweeps k).quiet, (given no_sweeps k).turned)) (λ k. Eigen matrix dim values vectors scratch k values' vectors' scratch') number place value
    → ExportedResult {A = Sweeps} {W = ℕ × Bool × ℕ} (λ k. ((given no_sweeps k).begun, (given no_sweeps k).quiet, (given no_sweeps k).turned)) (λ k. Eigen matrix dim values vectors scratch k values'' vectors'' scratch'') number' place' value'
    → (number ≡ number') × (place ≡ place') × (value ≡ value') × ((values' ≡ values'') × (vectors' ≡ vectors'') × (scratch' ≡ scratch''))
zg-hermitian-eigen-one matrix dim values vectors scratch values' values'' vectors' vectors'' scratch' scratch'' =
    exported-result-one (λ k l' c d. let e = hermitian-eigen-one matrix dim values vectors scratch k l' values' vectors' scratch' values'' vectors'' scratch'' c d in (e.0, (e.1, e.2, e.3)))

-- Only one outcome meets the contract of `zg_dense_schmidt_values`.
pub zg-dense-schmidt-values-one : (state : List Float) (n : ℕ) (l : List ℕ) (cap : ℕ) (out scratch : List Float) (out' out'' : List Float) (scratch' scratch'' : List Float) {number place number' place' : ℕ} {value value' : ℕ × ℕ × Bool × ℕ × Bool}
    → ExportedResult {A = CutCounted} {W = ℕ × ℕ × Bool × ℕ × Bool} (λ k. ((given no_cut k).count, (given no_cut k).sweeps.begun, (given no_cut k).sweeps.quiet, (given no_cut k).sweeps.turned, (given no_cut k).exact)) (λ k. Schmidt state n l cap out scratch k out' scratch') number place value
    → ExportedResult {A = CutCounted} {W = ℕ × ℕ × Bool × ℕ × Bool} (λ k. ((given no_cut k).count, (given no_cut k).sweeps.begun, (given no_cut k).sweeps.quiet, (given no_cut k).sweeps.turned, (given no_cut k).exact)) (λ k. Schmidt state n l cap out scratch k out'' scratch'') number' place' value'
    → (number ≡ number') × (place ≡ place') × (value ≡ value') × ((out' ≡ out'') × (scratch' ≡ scratch''))
zg-dense-schmidt-values-one state n l cap out scratch out' out'' scratch' scratch'' =
    exported-result-one (λ k l' c d. let e = dense-schmidt-values-one state n l cap out scratch k l' out' scratch' out'' scratch'' c d in (e.0, (e.1, e.2)))

-- Only one outcome meets the contract of `zg_cut_profile`.
pub zg-cut-profile-one : (state : List Float) (n cap : ℕ) (header : List ℕ) (values largest : List Float) (ranks marks : List ℕ) (scratch : List Float)
    (header' : List ℕ) (values' largest' : List Float) (ranks' marks' : List ℕ) (scratch' : List Float)
    (header'' : List ℕ) (values'' largest'' : List Float) (ranks'' marks'' : List ℕ) (scratch'' : List Float) {number place number' place' : ℕ}
    → Exported (λ x. CutProfile state n cap header values largest ranks marks scratch x header' values' largest' ranks' marks' scratch') number place
    → Exported (λ x. CutProfile state n cap header values largest ranks marks scratch x header'' values'' largest'' ranks'' marks'' scratch'') number' place'
    → (number ≡ number') × (place ≡ place')
    × ((header' ≡ header'') × (values' ≡ values'') × (largest' ≡ largest'') × (ranks' ≡ ranks'') × (marks' ≡ marks'') × (scratch' ≡ scratch''))
zg-cut-profile-one state n cap header values largest ranks marks scratch header' values' largest' ranks' marks' scratch' header'' values'' largest'' ranks'' marks'' scratch'' =
    exported-one (λ x y c d. let e = cut-profile-one state n cap header values largest ranks marks scratch x y header' values' largest' ranks' marks' scratch' header'' values'' largest'' ranks'' marks'' scratch'' c d in (e.0, (e.1, e.2, e.3, e.4, e.5, e.6)))

-- Only one outcome meets the contract of `zg_cut_rank` and of `zg_widest_block_cut`.
pub zg-ranked-one : (reply : Reply) (v : ℕ) {number place number' place' : ℕ} {value value' : ℕ}
    → ExportedResult (given 0) (λ k. Ranked reply v k) number place value
    → ExportedResult (given 0) (λ k. Ranked reply v k) number' place' value'
    → (number ≡ number') × (place ≡ place') × (value ≡ value')
zg-ranked-one reply v = exported-result-value-one (λ k l' c d. ranked-one reply v k l' c d)

-- Only one outcome meets the contract of each of the four `zg_fill` calls.
pub zg-fill-one : (reply : Reply) (cells : ℕ) (f : ℕ → Complex) (out : List Float) (out' out'' : List Float) {number place number' place' : ℕ}
    → Exported (λ x. Filled reply cells f out x out') number place → Exported (λ x. Filled reply cells f out x out'') number' place'
    → (number ≡ number') × (place ≡ place') × (out' ≡ out'')
zg-fill-one reply cells f out out' out'' =
    exported-one (λ x y c d. let e = fill_one reply cells f out x y out' out'' c d in (e.0, e.1))

-- Only one outcome meets the contract of `zg_entropy_band`.
pub zg-entropy-band-one : (state : List Float) (n : ℕ) (l : List ℕ) (cap : ℕ) (bands : List ℕ) (scratch : List Float) (bands' bands'' : List ℕ) (scratch' scratch'' : List Float) {number place number' place' : ℕ} {value value' : ℕ × ℕ × ℕ × ℕ × ℕ × Bool × ℕ}
    → ExportedResult {A = Entropy} {W = ℕ × ℕ × ℕ × ℕ × ℕ × Bool × ℕ} (λ k. ((given no_entropy k).count, (given no_entropy k).low, (given no_entropy k).high, (given no_entropy k).whole, (given no_entropy k).sweeps.begun, (given no_entropy k).sweeps.quiet, (given no_entropy k).sweeps.turned)) (λ k. EntropyBand state n l cap bands scratch k bands' scratch') number place value
    → ExportedResult {A = Entropy} {W = ℕ × ℕ × ℕ × ℕ × ℕ × Bool × ℕ} (λ k. ((given no_entropy k).count, (given no_entropy k).low, (given no_entropy k).high, (given no_entropy k).whole, (given no_entropy k).sweeps.begun, (given no_entropy k).sweeps.quiet, (given no_entropy k).sweeps.turned)) (λ k. EntropyBand state n l cap bands scratch k bands'' scratch'') number' place' value'
    → (number ≡ number') × (place ≡ place') × (value ≡ value') × ((bands' ≡ bands'') × (scratch' ≡ scratch''))
zg-entropy-band-one state n l cap bands scratch bands' bands'' scratch' scratch'' =
    exported-result-one (λ k l' c d. let e = entropy-band-one state n l cap bands scratch k l' bands' bands'' scratch' scratch'' c d in (e.0, (e.1, e.2)))

-- Only one outcome meets the contract of `zg_countersign`.
pub zg-countersign-one : (a : List Float) (m n : ℕ) (u s vt : List Float) (tolerance : ℕ) {number place number' place' : ℕ} {value value' : Verdict}
    → ExportedResult found (λ k. Countersign a m n u s vt tolerance k) number place value
    → ExportedResult found (λ k. Countersign a m n u s vt tolerance k) number' place' value'
    → (number ≡ number') × (place ≡ place') × (value ≡ value')
zg-countersign-one a m n u s vt tolerance =
    exported-result-value-one (λ k l' c d. countersign-one a m n u s vt tolerance k l' c d)

-- Only one outcome meets the contract of `zg_chain_of_sites`.
pub zg-chain-of-sites-one : (s : List Float) (n : ℕ) (epsilon : Float) (limit : ℕ) (sites : List Float) (bonds starts marks : List ℕ) (matrix u vt scratch : List Float)
    (sites' : List Float) (bonds' starts' marks' : List ℕ) (matrix' u' vt' scratch' : List Float)
    (sites'' : List Float) (bonds'' starts'' marks'' : List ℕ) (matrix'' u'' vt'' scratch'' : List Float) {number place number' place' : ℕ} {value value' : ℕ}
    → ExportedResult (given 0) (λ k. ChainOfSites s n epsilon limit sites bonds starts marks matrix u vt scratch k sites' bonds' starts' marks' matrix' u' vt' scratch') number place value
    → ExportedResult (given 0) (λ k. ChainOfSites s n epsilon limit sites bonds starts marks matrix u vt scratch k sites'' bonds'' starts'' marks'' matrix'' u'' vt'' scratch'') number' place' value'
    → (number ≡ number') × (place ≡ place') × (value ≡ value')
    × ((sites' ≡ sites'') × (bonds' ≡ bonds'') × (starts' ≡ starts'') × (marks' ≡ marks'') × (matrix' ≡ matrix'') × (u' ≡ u'') × (vt' ≡ vt'') × (scratch' ≡ scratch''))
zg-chain-of-sites-one s n epsilon limit sites bonds starts marks matrix u vt scratch sites' bonds' starts' marks' matrix' u' vt' scratch' sites'' bonds'' starts'' marks'' matrix'' u'' vt'' scratch'' =
    exported-result-one
    (λ k l' c d.
    let e = chain-of-sites-one s n epsilon limit sites bonds starts marks matrix u vt scratch k l' sites' bonds' starts' marks' matrix' u' vt' scratch' sites'' bonds'' starts'' marks'' matrix'' u'' vt'' scratch'' c d in
    (e.0, (e.1, e.2, e.3, e.4, e.5, e.6, e.7, e.8)))

-- Only one outcome meets the contract of `zg_slab_put`.
pub zg-slab-put-one : (cells index : List ℕ) (site : ℕ) (given : List ℕ) (cells' cells'' index' index'' : List ℕ) {number place number' place' : ℕ}
    → Exported (λ x. Put cells index site given x cells' index') number place → Exported (λ x. Put cells index site given x cells'' index'') number' place'
    → (number ≡ number') × (place ≡ place') × ((cells' ≡ cells'') × (index' ≡ index''))
zg-slab-put-one cells index site given cells' cells'' index' index'' =
    exported-one (λ x y c d. let e = put_one cells index site given c d in (e.0, (e.1, e.2)))

-- Only one outcome meets the contract of `zg_slab_drop`.
pub zg-slab-drop-one : (cells index : List ℕ) (site : ℕ) (cells' cells'' index' index'' : List ℕ) {number place number' place' : ℕ}
    → Exported (λ x. Dropped cells index site x cells' index') number place → Exported (λ x. Dropped cells index site x cells'' index'') number' place'
    → (number ≡ number') × (place ≡ place') × ((cells' ≡ cells'') × (index' ≡ index''))
zg-slab-drop-one cells index site cells' cells'' index' index'' =
    exported-one (λ x y c d. let e = drop-one cells index site c d in (e.0, (e.1, e.2)))

-- Only one outcome meets the contract of `zg_slab_replace`.
pub zg-slab-replace-one : (cells index : List ℕ) (site : ℕ) (given : List ℕ) (cells' cells'' index' index'' : List ℕ) {number place number' place' : ℕ}
    → Exported (λ x. Replaced cells index site given x cells' index') number place → Exported (λ x. Replaced cells index site given x cells'' index'') number' place'
    → (number ≡ number') × (place ≡ place') × ((cells' ≡ cells'') × (index' ≡ index''))
zg-slab-replace-one cells index site given cells' cells'' index' index'' =
    exported-one (λ x y c d. let e = replace-one cells index site given c d in (e.0, (e.1, e.2)))

-- Only one outcome meets the contract of `zg_lot_sheet`.
pub zg-lot-sheet-one : (lot sheet sheet' sheet'' : List ℕ) {number place number' place' : ℕ}
    → Exported (λ x. Lot lot sheet x sheet') number place → Exported (λ x. Lot lot sheet x sheet'') number' place'
    → (number ≡ number') × (place ≡ place') × (sheet' ≡ sheet'')
zg-lot-sheet-one lot sheet sheet' sheet'' = exported-one (λ x y c d. lot-sheet-one lot sheet x y sheet' sheet'' c d)

-- Only one outcome meets the contract of `zg_cut_plan`.
pub zg-cut-plan-one : (l : List ℕ) (n cap : ℕ) (plan plan' plan'' : List ℕ) {number place number' place' : ℕ}
    → Exported (λ x. CutPlanStored l n cap plan x plan') number place → Exported (λ x. CutPlanStored l n cap plan x plan'') number' place'
    → (number ≡ number') × (place ≡ place') × (plan' ≡ plan'')
zg-cut-plan-one l n cap plan plan' plan'' = exported-one (λ x y c d. store-cut-plan-one l n cap plan x y plan' plan'' c d)

-- Only one outcome meets the contract of `zg_plan_add`.
pub zg-plan-add-one : (plan : List ℕ) (q : ℕ) (plan' plan'' : List ℕ) {number place number' place' : ℕ}
    → Exported (λ x. ChangeStored (adding q) plan x plan') number place → Exported (λ x. ChangeStored (adding q) plan x plan'') number' place'
    → (number ≡ number') × (place ≡ place') × (plan' ≡ plan'')
zg-plan-add-one plan q plan' plan'' = exported-one (λ x y c d. change-stored-one (adding q) plan x y plan' plan'' c d)

-- Only one outcome meets the contract of `zg_plan_drop`.
pub zg-plan-drop-one : (plan : List ℕ) (q : ℕ) (plan' plan'' : List ℕ) {number place number' place' : ℕ}
    → Exported (λ x. ChangeStored (dropping q) plan x plan') number place → Exported (λ x. ChangeStored (dropping q) plan x plan'') number' place'
    → (number ≡ number') × (place ≡ place') × (plan' ≡ plan'')
zg-plan-drop-one plan q plan' plan'' = exported-one (λ x y c d. change-stored-one (dropping q) plan x y plan' plan'' c d)

-- Only one outcome meets the contract of `zg_plan_switch`.
pub zg-plan-switch-one : (plan plan' plan'' : List ℕ) {number place number' place' : ℕ}
    → Exported (λ x. ChangeStored switching plan x plan') number place → Exported (λ x. ChangeStored switching plan x plan'') number' place'
    → (number ≡ number') × (place ≡ place') × (plan' ≡ plan'')
zg-plan-switch-one plan plan' plan'' = exported-one (λ x y c d. change-stored-one switching plan x y plan' plan'' c d)

-- Only one outcome meets the contract of `zg_planned_cut_matrix`.
pub zg-planned-cut-matrix-one : (state : List Float) (w : List ℕ) (out : List Float) (out' out'' : List Float) {number place number' place' : ℕ}
    → Exported (λ x. PlannedCut state (plan_at w) out x out') number place → Exported (λ x. PlannedCut state (plan_at w) out x out'') number' place'
    → (number ≡ number') × (place ≡ place') × (out' ≡ out'')
zg-planned-cut-matrix-one state w out out' out'' =
    exported-one (λ x y c d. let e = planned-cut-matrix-one state (plan_at w) out x y out' out'' c d in (e.0, e.1))

-- Only one outcome meets the contract of `zg_planned_schmidt_values`.
pub zg-planned-schmidt-values-one : (state : List Float) (w : List ℕ) (out scratch : List Float) (out' out'' : List Float) (scratch' scratch'' : List Float) {number place number' place' : ℕ} {value value' : ℕ × ℕ × Bool × ℕ × Bool}
    → ExportedResult {A = CutCounted} {W = ℕ × ℕ × Bool × ℕ × Bool} (λ k. ((given no_cut k).count, (given no_cut k).sweeps.begun, (given no_cut k).sweeps.quiet, (given no_cut k).sweeps.turned, (given no_cut k).exact)) (λ k. PlannedValues state (plan_at w) out scratch k out' scratch') number place value
    → ExportedResult {A = CutCounted} {W = ℕ × ℕ × Bool × ℕ × Bool} (λ k. ((given no_cut k).count, (given no_cut k).sweeps.begun, (given no_cut k).sweeps.quiet, (given no_cut k).sweeps.turned, (given no_cut k).exact)) (λ k. PlannedValues state (plan_at w) out scratch k out'' scratch'') number' place' value'
    → (number ≡ number') × (place ≡ place') × (value ≡ value') × ((out' ≡ out'') × (scratch' ≡ scratch''))
zg-planned-schmidt-values-one state w out scratch out' out'' scratch' scratch'' =
    exported-result-one (λ k l' c d. let e = planned-schmidt-values-one state (plan_at w) out scratch k l' out' scratch' out'' scratch'' c d in (e.0, (e.1, e.2)))

-- Only one outcome meets the contract of `zg_planned_reduced_density`.
pub zg-planned-reduced-density-one : (state : List Float) (w : List ℕ) (out scratch : List Float) (out' out'' : List Float) (scratch' scratch'' : List Float) {number place number' place' : ℕ}
    → Exported (λ x. PlannedDensity state (plan_at w) out scratch x out' scratch') number place → Exported (λ x. PlannedDensity state (plan_at w) out scratch x out'' scratch'') number' place'
    → (number ≡ number') × (place ≡ place') × ((out' ≡ out'') × (scratch' ≡ scratch''))
zg-planned-reduced-density-one state w out scratch out' out'' scratch' scratch'' =
    exported-one (λ x y c d. let e = planned-reduced-density-one state (plan_at w) out scratch x y out' out'' scratch' scratch'' c d in (e.0, (e.1, e.2)))

-- Only one outcome meets the contract of `zg_certificate`.
pub zg-certificate-one : (file text text' text'' : List ℕ) {number place number' place' : ℕ} {value value' : ℕ}
    → ExportedWith {R = Written} (λ k. k.answer) (λ k. k.length) (λ k. Called 2048 (file_reply file) (certificate_of file) text k text') number place value
    → ExportedWith {R = Written} (λ k. k.answer) (λ k. k.length) (λ k. Called 2048 (file_reply file) (certificate_of file) text k text'') number' place' value'
    → (number ≡ number') × (place ≡ place') × (value ≡ value') × (text' ≡ text'')
zg-certificate-one file text text' text'' =
    exported-with-one (λ k l' c d. let e = print-certificate-one file text k l' text' text'' c d in (ap (λ (x : Written). x.answer) e.0, ap (λ (x : Written). x.length) e.0, e.1))

-- Only one outcome meets the contract of `zg_certificate_pages`.
pub zg-certificate-pages-one : (file text text' text'' : List ℕ) {number place number' place' : ℕ} {value value' : ℕ}
    → ExportedWith {R = Written} (λ k. k.answer) (λ k. k.length) (λ k. Called 102400 (file_reply file) (pages_of file) text k text') number place value
    → ExportedWith {R = Written} (λ k. k.answer) (λ k. k.length) (λ k. Called 102400 (file_reply file) (pages_of file) text k text'') number' place' value'
    → (number ≡ number') × (place ≡ place') × (value ≡ value') × (text' ≡ text'')
zg-certificate-pages-one file text text' text'' =
    exported-with-one (λ k l' c d. let e = print-pages-one file text k l' text' text'' c d in (ap (λ (x : Written). x.answer) e.0, ap (λ (x : Written). x.length) e.0, e.1))
