pub mod Characters
pub mod NumberText
pub mod ContainerNumber
pub mod SizeText
pub mod SizeCode
pub mod SlotName
