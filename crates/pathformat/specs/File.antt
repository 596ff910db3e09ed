-- The path file: what its bytes say, which bytes say it, and what can be filed.
use Rattle.std.specs.Prelude.{◌≡◌, ℕ, zero, suc, ◌<◌, ◌≤◌, Bool, true, false, cond, not, ◌&&◌, leb, List, [], ◌∷◌, ◌++◌, length, ℤ, pos, negsuc, FitsSigned, ◌==◌, nat_eq, nat_le, nat_lt, slice_index_or}
use Rattle.std.specs.Int.{w32}
use Rattle.points.specs.Points.{Point}
use Rattle.points.specs.Parameters.{off_scale}
use Rattle.points.specs.Refusals.{refuse}
use Rattle.points.specs.declared.fault.Refusal.TheVariants.{OffScale, Degree, Foreign, Tail, Press, Letter, Overlong}
use Rattle.points.specs.declared.parameter.Parameter.{Parameter}
use Rattle.workings.specs.declared.working.Working.{Working}
use Rattle.workings.specs.declared.working.Working.TheVariants.{Left, Right, Raise, Turn}
use Rattle.pathformat.specs.declared.kind.FileKind.{FileKind}
use Rattle.pathformat.specs.declared.kind.FileKind.TheVariants.{Height, Planar, Sample}
use Rattle.pathformat.specs.Reading.{Read, took, bad, fault, after, one, two, four, part, checked, counted}
use Rattle.pathformat.specs.Writing.{bytes2, bytes4, bytes_each, Bytes, Each}

-- what a path file says; a point is the list of its axis values
pub record File : Type 0 where
  pub kind : FileKind
  pub allowance : ℕ
  pub name : List ℕ
  pub points : List (List ℤ)
  pub workings : List Working

abbrev pub code : FileKind → ℕ
code Height = 1
code Planar = 2
code Sample = 3

-- a point of so many axes as the list of its values, and back
abbrev pub listed : ℕ → Point → List ℤ
listed zero p = []
listed (suc w) p = p zero ∷ listed w (λ a. p (suc a))

abbrev pub point_of : List ℤ → Point
point_of zs = λ a. slice_index_or zs a (pos 0)

-- a point's fields, by kind: an axis value has four bytes, a press two
pub data Field : Type 0 where
  axis : Field
  press : Field

abbrev pub fields : FileKind → List Field
fields Height = axis ∷ []
fields Planar = axis ∷ axis ∷ []
fields Sample = axis ∷ axis ∷ press ∷ []

abbrev pub press_at : ℕ → List ℕ → Read ℕ
press_at = checked (λ p. leb p 4095) Press two

abbrev pub field_at : Field → ℕ → List ℕ → Read ℤ
field_at axis n bs = four n bs
field_at press n bs = after (press_at n bs) (λ p r. took (pos p) r)

abbrev pub fields_at : List Field → ℕ → List ℕ → Read (List ℤ)
fields_at [] n bs = took [] bs
fields_at (f ∷ fs) n bs = after (field_at f n bs) (λ z r. after (fields_at fs n r) (λ zs s. took (z ∷ zs) s))

-- the axis values of the point that stands next
abbrev pub point_at : FileKind → ℕ → List ℕ → Read (List ℤ)
point_at k = fields_at (fields k)

-- a parameter: k, then a, and tested once a is read
abbrev pub pair_at : ℕ → List ℕ → Read Parameter
pair_at n bs = after (one n bs) (λ k r. after (two n r) (λ a s. took (record { a = a; k = k }) s))

abbrev pub parameter_at : ℕ → List ℕ → Read Parameter
parameter_at = checked (λ t. not (off_scale t)) OffScale pair_at

-- the letters L, R, U and T name left, right, raise and turn
abbrev pub working_as : ℕ → ℕ → List ℕ → List ℕ → Read Working
working_as b n bs r =
    cond (b == 76) (after (parameter_at n r) (λ t s. took (Left t) s))
    (cond (b == 82) (after (parameter_at n r) (λ t s. took (Right t) s))
    (cond (b == 85) (took Raise r)
    (cond (b == 84) (took Turn r)
    (bad (fault Letter n bs)))))

abbrev pub working_at : ℕ → List ℕ → Read Working
working_at n bs = after (one n bs) (λ b r. working_as b n bs r)

-- the four sections: head (its count is 3), name, points and workings
abbrev pub head_at : FileKind → ℕ → List ℕ → Read ℕ
head_at k n bs = after (checked (λ c. nat_eq c 3) Foreign two n bs) (λ _ r. after (checked (λ c. nat_eq c (code k)) Foreign one n r) (λ _ s. two n s))

abbrev pub name_at : ℕ → List ℕ → Read (List ℕ)
name_at n bs = after (checked (λ c. leb c 64) Overlong two n bs) (λ k r. part k n r)

abbrev pub within : ℕ → ℕ → ℕ → Bool
within least most c = nat_le least c && nat_le c most

abbrev pub few_points : ℕ → Bool
few_points = within 2 17

abbrev pub few_workings : ℕ → Bool
few_workings = within 0 256

abbrev pub points_at : FileKind → ℕ → List ℕ → Read (List (List ℤ))
points_at k = counted few_points Degree (point_at k)

abbrev pub workings_at : ℕ → List ℕ → Read (List Working)
workings_at = counted few_workings Overlong working_at

-- nothing is left over
abbrev pub ended : File → ℕ → List ℕ → Read File
ended f n [] = took f []
ended f n (b ∷ bs) = bad (fault Tail n (b ∷ bs))

abbrev pub sections : FileKind → ℕ → List ℕ → Read File
sections k n bs =
    after (head_at k n bs) (λ a r₁.
    after (name_at n r₁) (λ nm r₂.
    after (points_at k n r₂) (λ ps r₃.
    after (workings_at n r₃) (λ ws r₄.
    ended (record { kind = k; allowance = a; name = nm; points = ps; workings = ws }) n r₄))))

-- what bytes say, opened as a kind
abbrev pub decode : FileKind → List ℕ → Read File
decode k bs = cond (nat_lt 65535 (length bs)) (bad (refuse Overlong 0)) (sections k (length bs) bs)

-- the bytes of a point, a working and the head
abbrev pub nat_of : ℤ → ℕ
nat_of (pos n) = n
nat_of (negsuc n) = 0

abbrev pub field_bytes : Field → ℤ → List ℕ
field_bytes axis z = bytes4 z
field_bytes press z = bytes2 (nat_of z)

abbrev pub fields_bytes : List Field → List ℤ → List ℕ
fields_bytes [] zs = []
fields_bytes (f ∷ fs) [] = []
fields_bytes (f ∷ fs) (z ∷ zs) = field_bytes f z ++ fields_bytes fs zs

abbrev pub point_bytes : FileKind → List ℤ → List ℕ
point_bytes k = fields_bytes (fields k)

abbrev pub parameter_bytes : Parameter → List ℕ
parameter_bytes t = t.k ∷ bytes2 t.a

abbrev pub working_bytes : Working → List ℕ
working_bytes (Left t) = 76 ∷ parameter_bytes t
working_bytes (Right t) = 82 ∷ parameter_bytes t
working_bytes Raise = 85 ∷ []
working_bytes Turn = 84 ∷ []

abbrev pub head_bytes : FileKind → ℕ → List ℕ
head_bytes k a = bytes2 3 ++ (code k ∷ bytes2 a)

abbrev pub name_bytes : List ℕ → List ℕ
name_bytes nm = bytes2 (length nm) ++ nm

-- the bytes of a file
abbrev pub encode : File → List ℕ
encode f = head_bytes f.kind f.allowance ++ (name_bytes f.name ++ (bytes_each (point_bytes f.kind) f.points ++ bytes_each working_bytes f.workings))

-- what can be filed
abbrev pub FieldOk : Field → ℤ → Type 0
FieldOk axis z = FitsSigned w32 z
FieldOk press (pos p) = p ≤ 4095
FieldOk press (negsuc p) = ⊥

abbrev pub FieldsOk : List Field → List ℤ → Type 0
FieldsOk [] [] = Unit {0}
FieldsOk [] (z ∷ zs) = ⊥
FieldsOk (f ∷ fs) [] = ⊥
FieldsOk (f ∷ fs) (z ∷ zs) = FieldOk f z × FieldsOk fs zs

abbrev pub WorkingOk : Working → Type 0
WorkingOk (Left t) = off_scale t ≡ false
WorkingOk (Right t) = off_scale t ≡ false
WorkingOk Raise = Unit {0}
WorkingOk Turn = Unit {0}

pub record Fileable (f : File) : Type 0 where
  pub allowance : f.allowance < 65536
  pub name : (length f.name ≤ 64) × Bytes f.name
  pub points : (few_points (length f.points) ≡ true) × Each (FieldsOk (fields f.kind)) f.points
  pub workings : (few_workings (length f.workings) ≡ true) × Each WorkingOk f.workings

-- the bytes are those of the file f, which is of the kind k and can be filed
pub record IsFile (k : FileKind) (bs : List ℕ) (f : File) : Type 0 where
  pub bytes : bs ≡ encode f
  pub kind : f.kind ≡ k
  pub fileable : Fileable f

-- what can be filed reads back as itself, and whatever reads is the bytes of what it says
pub record RoundTrip : Type 0 where
  pub reads : (f : File) → Fileable f → decode f.kind (encode f) ≡ took f []
  pub writes : (k : FileKind) (bs : List ℕ) (f : File) (r : List ℕ) → Bytes bs → decode k bs ≡ took f r → IsFile k bs f
