-- What a form of statement takes from its operands: registers, and the text of a value.
use Rattle.std.specs.Prelude.{ℕ, ◌==◌, List, [], length, Option, Some, None, is_some, if◌then◌else◌}
use Rattle.std.specs.Option.{option_and_then, option_map}
use Rattle.dl_asm.specs.declared.form.Form.{Form}
use Rattle.dl_asm.specs.declared.fields.Registers.{Registers}
use Rattle.dl_asm.specs.Numbers.{number_in, register_in}
use Rattle.dl_asm.specs.Operands.{memory_in, is_value, operands_in, two_of, three_of}

-- a register that the form doesn't have is x0, and a value that it doesn't have is an empty text
abbrev pub Fields : Type 0
Fields = Registers × List ℕ

abbrev pub fields : (rd rs1 rs2 : ℕ) (value : List ℕ) → Fields
fields rd rs1 rs2 value = (record { rd = rd; rs1 = rs1; rs2 = rs2 }, value)

abbrev pub value_in : List ℕ → Option (List ℕ)
value_in text = if is_value text then Some text else None

-- ---- memory operands: a base register, after the text of an offset or alone

abbrev pub offset_of : List ℕ × List ℕ → Option (List ℕ)
offset_of memory = value_in (memory.0)

abbrev pub base_of : List ℕ × List ℕ → Option ℕ
base_of memory = register_in (memory.1)

abbrev pub address_in : List ℕ → Option ℕ
address_in text = option_and_then (λ memory. if length (memory.0) == 0 then base_of memory else None) (memory_in text)

-- ---- by the kinds of their operands: R a register, V a value, M a memory operand with an offset, A one without

abbrev pub fields_none : List ℕ → Option Fields
fields_none text = if length text == 0 then Some (fields 0 0 0 []) else None

abbrev pub fields_v : List ℕ → Option Fields
fields_v text = option_and_then (λ value. Some (fields 0 0 0 value)) (value_in text)

-- only a number, because what labels stand for would depend on it
abbrev pub fields_number : List ℕ → Option Fields
fields_number text = if is_some (number_in text) then Some (fields 0 0 0 text) else None

abbrev pub fields_rv : List ℕ × List ℕ → Option Fields
fields_rv texts = option_and_then (λ rd. option_map (λ value. fields rd 0 0 value) (value_in (texts.1))) (register_in (texts.0))

-- loads and JALR begin with the register that they write, stores with the one that they store
abbrev pub fields_load : List ℕ × List ℕ → Option Fields
fields_load texts =
    option_and_then (λ rd.
    option_and_then (λ memory.
    option_and_then (λ value.
    option_map (λ rs1. fields rd rs1 0 value)
    (base_of memory))
    (offset_of memory))
    (memory_in (texts.1)))
    (register_in (texts.0))

abbrev pub fields_store : List ℕ × List ℕ → Option Fields
fields_store texts =
    option_and_then (λ rs2.
    option_and_then (λ memory.
    option_and_then (λ value.
    option_map (λ rs1. fields 0 rs1 rs2 value)
    (base_of memory))
    (offset_of memory))
    (memory_in (texts.1)))
    (register_in (texts.0))

abbrev pub fields_ra : List ℕ × List ℕ → Option Fields
fields_ra texts = option_and_then (λ rd. option_map (λ rs1. fields rd rs1 0 []) (address_in (texts.1))) (register_in (texts.0))

abbrev pub fields_rrr : List ℕ × List ℕ × List ℕ → Option Fields
fields_rrr texts =
    option_and_then (λ rd.
    option_and_then (λ rs1.
    option_map (λ rs2. fields rd rs1 rs2 [])
    (register_in (texts.2)))
    (register_in (texts.1)))
    (register_in (texts.0))

abbrev pub fields_rrv : List ℕ × List ℕ × List ℕ → Option Fields
fields_rrv texts =
    option_and_then (λ rd.
    option_and_then (λ rs1.
    option_map (λ value. fields rd rs1 0 value)
    (value_in (texts.2)))
    (register_in (texts.1)))
    (register_in (texts.0))

-- a branch writes no register
abbrev pub fields_branch : List ℕ × List ℕ × List ℕ → Option Fields
fields_branch texts =
    option_and_then (λ rs1.
    option_and_then (λ rs2.
    option_map (λ value. fields 0 rs1 rs2 value)
    (value_in (texts.2)))
    (register_in (texts.1)))
    (register_in (texts.0))

abbrev pub fields_rra : List ℕ × List ℕ × List ℕ → Option Fields
fields_rra texts =
    option_and_then (λ rd.
    option_and_then (λ rs2.
    option_map (λ rs1. fields rd rs1 rs2 [])
    (address_in (texts.2)))
    (register_in (texts.1)))
    (register_in (texts.0))

-- ---- by forms

abbrev pub of_two : (List ℕ × List ℕ → Option Fields) → List ℕ → Option Fields
of_two read text = option_and_then read (two_of (operands_in text))

abbrev pub of_three : (List ℕ × List ℕ × List ℕ → Option Fields) → List ℕ → Option Fields
of_three read text = option_and_then read (three_of (operands_in text))

-- none if the operands don't match the form in number and kind
unfoldable pub fields_of : Form → List ℕ → Option Fields
fields_of (Form.Register op) text = of_three fields_rrr text
fields_of (Form.Immediate op) text = of_three fields_rrv text
fields_of (Form.Shift op) text = of_three fields_rrv text
fields_of (Form.Load op) text = of_two fields_load text
fields_of (Form.Store op) text = of_two fields_store text
fields_of (Form.Branch op) text = of_three fields_branch text
fields_of Form.Lui text = of_two fields_rv text
fields_of Form.Auipc text = of_two fields_rv text
fields_of Form.Jal text = of_two fields_rv text
fields_of Form.Jalr text = of_two fields_load text
fields_of Form.Fence text = fields_none text
fields_of Form.FenceI text = fields_none text
fields_of Form.Ecall text = fields_none text
fields_of Form.Ebreak text = fields_none text
fields_of (Form.LoadReserved order) text = of_two fields_ra text
fields_of (Form.StoreConditional order) text = of_three fields_rra text
fields_of (Form.Amo op order) text = of_three fields_rra text
fields_of Form.Word text = fields_v text
fields_of Form.Zero text = fields_number text
